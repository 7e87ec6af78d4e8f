-- Each segment that was loaded shows the volume's table, so a slip of another table weighs nothing: all slips are of
-- these words, and no more than there are segments.
use Rattle.std.proofs.Common.{◌≡◌, ℕ, zero, suc, ◌+◌, ◌-◌, ◌<◌, ◌≤◌, ◌==◌, ◌&&◌, Bool, true, false, if◌then◌else◌, List, [], ◌∷◌, length, get_or, Option, Some, None, inl, inr, refl, sym, ap, subst, ◌∙◌, eq-eqb, arith}
use Rattle.std.specs.Prelude.{is_some, nat_lt, IfSome}
use Rattle.std.proofs.lemmas.Bool.{cases_lt, eqb-true}
use Rattle.std.proofs.lemmas.List.{get_or_default, get_or_past}
use Rattle.geometry.specs.Weights.{weigh}
use Rattle.geometry.proofs.Weighing.{weigh-at}
use Rattle.atomic_table.specs.Seated.{TableId}
use Rattle.geometry.specs.declared.geometry.Geometry.{Geometry}
use Rattle.geometry.specs.declared.state.State.{State}
use Rattle.geometry.specs.declared.state.State.TheVariants.{Free, Open, Sealed, Prefree}
use Rattle.image.specs.declared.image.LogHead.{LogHead}
use Rattle.image.specs.Image.{Image}
use Rattle.image.specs.Reading.{same_bytes}
use Rattle.image.specs.Rules.{IsLawful, IsPlace}
use Rattle.words.specs.Tokens.{FreeSegment, OpenSegment, fresh_slip}
use Rattle.sit.specs.Registered.{Registered}
use Rattle.rights_books.proofs.Learning.{weigh_ones}
use Rattle.mount_blocks.specs.States.{AreSegmentsFrom, when_free, slip_weight, slip_from}
use Rattle.area.specs.Cells.{IsOpenOf}
use Rattle.area.specs.Opening.{SegmentsFall, AreSlips}
use Rattle.mount.specs.Logs.{EachStands}

-- ---- tables that are told apart by their numbers

both : (a b : Bool) → (a && b) ≡ true → (a ≡ true) × (b ≡ true)
both true b h = (refl, h)
both false b h = absurd cc

joined : (a b : Bool) → a ≡ true → b ≡ true → (a && b) ≡ true
joined true b h k = k
joined false b h k = absurd cc

same_names : (xs ys : List ℕ) → same_bytes xs ys ≡ true → xs ≡ ys
same_names [] [] h = refl
same_names [] (y ∷ ys) h = absurd cc
same_names (x ∷ xs) [] h = absurd cc
same_names (x ∷ xs) (y ∷ ys) h =
    let two = both (x == y) (same_bytes xs ys) h in
    let first = eqb-true x y two.0 in
    let rest = same_names xs ys two.1 in
    λ i. first i ∷ rest i

own_names : (xs : List ℕ) → same_bytes xs xs ≡ true
own_names [] = refl
own_names (x ∷ xs) = joined (x == x) (same_bytes xs xs) (eq-eqb x x refl) (own_names xs)

abbrev same_table : TableId → TableId → Bool
same_table a b =
    (a.words == b.words) && ((a.slots == b.slots) && ((a.views_name == b.views_name) && ((a.atom == b.atom) && ((a.block == b.block)
    && ((a.offset == b.offset) && same_bytes a.slot_names b.slot_names)))))

tables_same : (a b : TableId) → same_table a b ≡ true → a ≡ b
tables_same a b h =
    let t1 = both (a.words == b.words) ((a.slots == b.slots) && ((a.views_name == b.views_name) && ((a.atom == b.atom) && ((a.block == b.block) && ((a.offset == b.offset) && same_bytes a.slot_names b.slot_names))))) h in
    let t2 = both (a.slots == b.slots) ((a.views_name == b.views_name) && ((a.atom == b.atom) && ((a.block == b.block) && ((a.offset == b.offset) && same_bytes a.slot_names b.slot_names)))) t1.1 in
    let t3 = both (a.views_name == b.views_name) ((a.atom == b.atom) && ((a.block == b.block) && ((a.offset == b.offset) && same_bytes a.slot_names b.slot_names))) t2.1 in
    let t4 = both (a.atom == b.atom) ((a.block == b.block) && ((a.offset == b.offset) && same_bytes a.slot_names b.slot_names)) t3.1 in
    let t5 = both (a.block == b.block) ((a.offset == b.offset) && same_bytes a.slot_names b.slot_names) t4.1 in
    let t6 = both (a.offset == b.offset) (same_bytes a.slot_names b.slot_names) t5.1 in
    let e1 = eqb-true a.words b.words t1.0 in
    let e2 = eqb-true a.slots b.slots t2.0 in
    let e3 = eqb-true a.views_name b.views_name t3.0 in
    let e4 = eqb-true a.atom b.atom t4.0 in
    let e5 = eqb-true a.block b.block t5.0 in
    let e6 = eqb-true a.offset b.offset t6.0 in
    let e7 = same_names a.slot_names b.slot_names t6.1 in
    λ i. record { words = e1 i; slots = e2 i; views_name = e3 i; atom = e4 i; block = e5 i; offset = e6 i; slot_names = e7 i }

own_table : (a : TableId) → same_table a a ≡ true
own_table a =
    joined (a.words == a.words) ((a.slots == a.slots) && ((a.views_name == a.views_name) && ((a.atom == a.atom) && ((a.block == a.block) && ((a.offset == a.offset) && same_bytes a.slot_names a.slot_names))))) (eq-eqb a.words a.words refl)
    (joined (a.slots == a.slots) ((a.views_name == a.views_name) && ((a.atom == a.atom) && ((a.block == a.block) && ((a.offset == a.offset) && same_bytes a.slot_names a.slot_names)))) (eq-eqb a.slots a.slots refl)
    (joined (a.views_name == a.views_name) ((a.atom == a.atom) && ((a.block == a.block) && ((a.offset == a.offset) && same_bytes a.slot_names a.slot_names))) (eq-eqb a.views_name a.views_name refl)
    (joined (a.atom == a.atom) ((a.block == a.block) && ((a.offset == a.offset) && same_bytes a.slot_names a.slot_names)) (eq-eqb a.atom a.atom refl)
    (joined (a.block == a.block) ((a.offset == a.offset) && same_bytes a.slot_names a.slot_names) (eq-eqb a.block a.block refl)
    (joined (a.offset == a.offset) (same_bytes a.slot_names a.slot_names) (eq-eqb a.offset a.offset refl) (own_names a.slot_names))))))

-- ---- the slips of free segments

-- 1 for a slip of other words
abbrev other_table : TableId → FreeSegment → ℕ
other_table table s = if same_table s.table table then 0 else 1

none_free : (st : State) → when_free st 0 ≡ 0
none_free Free = refl
none_free Open = refl
none_free Sealed = refl
none_free Prefree = refl

one_free : (st : State) → when_free st 1 ≤ 1
one_free Free = omega arith
one_free Open = omega arith
one_free Sealed = omega arith
one_free Prefree = omega arith

no_bit : (b : Bool) → ◌≡◌ {A = ℕ} (if b then 0 else 1) 0 → b ≡ true
no_bit true h = refl
no_bit false h = absurd (omega arith)

own_slips : (table : TableId) (states : List Registered) → ((k : ℕ) (other : Registered) → k < length states → (get_or states k other).table ≡ table) → weigh (slip_weight (other_table table)) states ≡ 0
own_slips table [] own = refl
own_slips table (r ∷ states) own =
    let here : r.table ≡ table = own 0 r (omega arith) in
    let bit : same_table r.table table ≡ true = ap (λ t. same_table t table) here ∙ own_table table in
    let none : slip_weight (other_table table) r ≡ 0 = ap (λ (b : Bool). when_free r.segment.state (if b then 0 else 1)) bit ∙ none_free r.segment.state in
    let rest = own_slips table states (λ k other low. own (suc k) other (omega arith)) in
    omega arith

few_slips : (states : List Registered) → weigh (slip_weight (λ _. 1)) states ≤ length states
few_slips [] = omega arith
few_slips (r ∷ states) = let here = one_free r.segment.state in let rest = few_slips states in omega arith

module _ (geometry : Geometry) (image : Image) (book table : TableId) (states : List Registered) (free : List FreeSegment) (logs : List (Option OpenSegment)) (are : AreSegmentsFrom geometry image book table 0 states free logs) where
  pub loaded_slips : AreSlips table free
  loaded_slips k other low =
      let none : weigh (other_table table) free ≡ 0 = are.slips (other_table table) ∙ own_slips table states (λ j o within. (are.each j o within).table_is) in
      let here = weigh-at (other_table table) free k other low in
      let weightless : other_table table (get_or free k other) ≡ 0 = omega arith in
      tables_same (get_or free k other).table table (no_bit (same_table (get_or free k other).table table) weightless)

  pub few_free : length free ≤ geometry.segments
  few_free =
      let all = are.slips (λ _. 1) in
      let ones = weigh_ones free in
      let few = few_slips states in
      let count = are.count in
      omega arith

  pub loaded_fall : SegmentsFall geometry book table geometry.segments states
  loaded_fall k other low =
      let i = are.each k other low in
      record {
        within = i.within;
        shape = i.shape;
        number_is = i.number_is;
        sized = i.owners.sized;
        book_is = i.book_is;
        table_is = i.table_is;
      }

  module _ (lawful : IsLawful geometry image) where
    in_range : (k : ℕ) → IfSome (get_or image.logs k None) (IsPlace geometry)
    in_range k = elim (cases_lt k (length image.logs)) [
      | inl low ↦ (lawful 1 (omega arith) (omega arith)).places k None low
      | inr past ↦ subst (λ o. IfSome o (IsPlace geometry)) (sym (get_or_past image.logs k None past)) tt
    ]

    stands : (o : Option LogHead) → IfSome o (IsPlace geometry) → (s : OpenSegment) → slip_from table 0 o ≡ Some s → IsOpenOf table geometry.segments s
    stands None place s is = let no = ap (λ (x : Option (OpenSegment)). is_some x) is in cc
    stands (Some p) place s is = by_bit (nat_lt p.segment 0) is
      where
        here : (s : OpenSegment) → ◌≡◌ {A = Option OpenSegment} (Some (record { table = table; segment = p.segment })) (Some s) → IsOpenOf table geometry.segments s
        here s same =
            let slip : record { table = table; segment = p.segment } ≡ s = ap (λ x. slip_or x s) same in
            subst (IsOpenOf table geometry.segments) slip (record { table_is = refl; within = place.0 })
          where
            slip_or : Option OpenSegment → OpenSegment → OpenSegment
            slip_or None t = t
            slip_or (Some x) t = x

        by_bit : (b : Bool) → ◌≡◌ {A = Option OpenSegment} (if b then None else Some (record { table = table; segment = p.segment })) (Some s) → IsOpenOf table geometry.segments s
        by_bit true same = let no = ap (λ (x : Option (OpenSegment)). is_some x) same in cc
        by_bit false same = here s same

    pub loaded_logs : EachStands table geometry.segments logs
    loaded_logs k other low s is =
        stands (get_or image.logs k None) (in_range k) s (sym (are.opened k) ∙ (get_or_default logs k None other low ∙ is))
