-- No two logs stand in one segment, and a log's next place is past all its valid blocks: so a segment is open, free or
-- sealed by its log and its count, and adds just that.
use Rattle.std.proofs.Common.{◌≡◌, ◌≢◌, ℕ, zero, suc, ◌+◌, ◌-◌, ◌<◌, ◌≤◌, nat_lt, Bool, List, [], ◌∷◌, ◌++◌, length, get_or, set, if◌then◌else◌, Option, Some, None, inl, inr, refl, sym, ap, subst, ◌∙◌, arith}
use Rattle.std.specs.Prelude.{IfSome, IsTrue}
use borrow.Author.Tests.{lt-ltb, le-ltb}
use Rattle.std.proofs.lemmas.Bool.{cases_eq, cases_lt}
use Rattle.std.proofs.lemmas.List.{length-append, length-set, get_or_past, get_or-set_same, get_or-set_other}
use Rattle.atomic_table.specs.Seated.{TableId}
use Rattle.geometry.specs.Weights.{weigh}
use Rattle.geometry.proofs.Weighing.{weigh-append}
use Rattle.geometry.proofs.Indexing.{each_push}
use Rattle.rights_books.proofs.Lists.{weigh_le}
use Rattle.rights_books.proofs.Learning.{weigh_ones}
use Rattle.geometry.specs.declared.geometry.Geometry.{Geometry}
use Rattle.geometry.specs.declared.owner.Owner.{Owner}
use Rattle.geometry.specs.declared.state.State.{State}
use Rattle.geometry.specs.declared.state.State.TheVariants.{Free, Open, Sealed, Prefree}
use Rattle.geometry.specs.Shape.{segment_blocks}
use Rattle.geometry.specs.Address.{address_of}
use Rattle.image.specs.declared.image.LogHead.{LogHead}
use Rattle.image.specs.Image.{Image, info_of, is_marked}
use Rattle.image.specs.Rules.{IsLawful, IsPlace, AreApart}
use Rattle.image.proofs.Marking.{true_or_false}
use Rattle.words.specs.Tokens.{Post, FreeSegment, OpenSegment, fresh_slip}
use Rattle.sit.specs.Segment.{Segment, IsFitting}
use Rattle.sit.specs.Loading.{Loaded, loaded_segment, HasLoadedSealed}
use Rattle.sit.specs.Registered.{Registered}
use Rattle.mount_blocks.specs.States.{HasOwners, HasNoLog, IsStateIn, IsSegmentIn, when_free, slip_weight, slip_from, AreSegmentsFrom}
use Rattle.mount_blocks.proofs.Bits.{unowned}

pub some_within : {A : Type 0} (xs : List (Option A)) (k : ℕ) (x : A) → get_or xs k None ≡ Some x → k < length xs
some_within [] k x e = cc
some_within (y ∷ xs) zero x e = omega arith
some_within (y ∷ xs) (suc k) x e = let rest = some_within xs k x e in omega arith

pub same_some : {A : Type 0} (o : Option A) (x y : A) → o ≡ Some x → o ≡ Some y → x ≡ y
same_some None x y e d = cc
same_some (Some z) x y e d = cc

pub below_next : (p n : ℕ) → p ≢ n → nat_lt p (n + 1) ≡ nat_lt p n
below_next p n apart = elim (cases_lt p n) [
  | inl low ↦ lt-ltb p (n + 1) (omega arith) ∙ sym (lt-ltb p n low)
  | inr high ↦ elim (cases_eq p n) [
    | inl e ↦ absurd (apart e)
    | inr other ↦ le-ltb p (n + 1) (omega arith) ∙ sym (le-ltb p n high)
  ]
]

-- a segment in which the log does not stand changes nothing for it
slip_same : (table : TableId) (n : ℕ) (o : Option LogHead) → ((p : LogHead) → o ≡ Some p → p.segment ≢ n) → slip_from table (n + 1) o ≡ slip_from table n o
slip_same table n None apart = refl
slip_same table n (Some p) apart = ap (λ (b : Bool). if b then None else Some (record { table = table; segment = p.segment })) (below_next p.segment n (apart p refl))

slip_here : (table : TableId) (n : ℕ) (p : LogHead) → p.segment ≡ n → slip_from table n (Some p) ≡ Some (record { table = table; segment = n })
slip_here table n p is =
    ap (λ (b : Bool). if b then None else Some (record { table = table; segment = p.segment })) (le-ltb p.segment n (omega arith))
    ∙ ap (λ s. Some (record { table = table; segment = s })) is

few_free : (s : State) → when_free s 1 ≤ 1
few_free Free = omega arith
few_free Open = omega arith
few_free Sealed = omega arith
few_free Prefree = omega arith

-- there are no more slips of free segments than segments
pub few_slips : (states : List Registered) (free : List FreeSegment) → ((h : FreeSegment → ℕ) → weigh h free ≡ weigh (slip_weight h) states) → length free ≤ length states
few_slips states free slips =
    let all = slips (λ _. 1) in
    let most = weigh_le (slip_weight (λ _. 1)) (λ _. 1) (λ r. few_free r.segment.state) states in
    let one = weigh_ones free in
    let two = weigh_ones states in
    omega arith

-- a segment that was opened and sealed has the words that it had
pub sealed_table : (old new : Post) → HasLoadedSealed old new → new.table ≡ old.table
sealed_table old new (opened, slip, begun, ended) = ended.3 ∙ begun.3

module _ (geometry : Geometry) (image : Image) (lawful : IsLawful geometry image) where
  -- no two logs stand in one segment
  logs_apart : (k j : ℕ) (p q : LogHead) → get_or image.logs k None ≡ Some p → get_or image.logs j None ≡ Some q → k ≢ j → p.segment ≢ q.segment
  logs_apart k j p q at to apart = elim (cases_lt k j) [
    | inl low ↦ subst (AreApart (Some p)) to (subst (λ o. AreApart o (get_or image.logs j None)) at (lawful 2 (omega arith) (omega arith) k j None low (some_within image.logs j q to)))
    | inr high ↦
        let lower : j < k = elim (cases_eq k j) [ inl e ↦ absurd (apart e) | inr other ↦ omega arith ] in
        let other = subst (AreApart (Some q)) at (subst (λ o. AreApart o (get_or image.logs k None)) to (lawful 2 (omega arith) (omega arith) j k None lower (some_within image.logs k p at))) in
        λ e. other (sym e)
  ]

  -- the log that stands in a segment is the one that was found there
  found_same : (s : ℕ) (j : ℕ) (p : LogHead) → get_or image.logs j None ≡ Some p → p.segment ≡ s → (k : ℕ) (q : LogHead) → get_or image.logs k None ≡ Some q → q.segment ≡ s → q ≡ p
  found_same s j p at is k q to too = elim (cases_eq k j) [
    | inl e ↦ same_some (get_or image.logs j None) q p (ap (λ i. get_or image.logs i None) (sym e) ∙ to) at
    | inr apart ↦ absurd (logs_apart k j q p to at apart (too ∙ sym is))
  ]

  -- no block at or past a log's next place is valid
  pub log_fits : (s : ℕ) (j : ℕ) (p : LogHead) (summaries : List (Option Owner)) → get_or image.logs j None ≡ Some p → p.segment ≡ s → HasOwners geometry image s 0 summaries → IsFitting Open p.next summaries
  log_fits s j p summaries at is has =
      let range = lawful 1 (omega arith) (omega arith) in
      let agree = lawful 10 (omega arith) (omega arith) in
      let within = some_within image.logs j p at in
      let place : IsPlace geometry p = subst (λ o. IfSome o (IsPlace geometry)) at (range.places j None within) in
      let unmarked = subst (λ o. IfSome o (λ (place : LogHead). (offset : ℕ) → place.next ≤ offset → offset < segment_blocks geometry.shape → ¬ IsTrue (is_marked geometry image (address_of geometry.shape place.segment offset)))) at (agree.logs j None within) in
      let sized = has.sized in (
        (let low = place.1 in omega arith),
        λ o past. elim (cases_lt o (segment_blocks geometry.shape)) [
          | inr high ↦ get_or_past summaries o None (omega arith)
          | inl low ↦ elim (true_or_false (is_marked geometry image (address_of geometry.shape s o))) [
            | inl marked ↦ absurd (unmarked o past low (ap (λ k. is_marked geometry image (address_of geometry.shape k o)) is ∙ marked))
            | inr un ↦ has.owners o (omega arith) low ∙ unowned geometry image (address_of geometry.shape s o) un
          ]
        ],
      )

  -- the state of a segment in which a log stands
  pub state_open : (s j : ℕ) (p : LogHead) → get_or image.logs j None ≡ Some p → p.segment ≡ s → IsStateIn image s Open p.next
  state_open s j p at is = record {
    open_at = λ k q to too. (refl, ap (λ (r : LogHead). r.next) (sym (found_same s j p at is k q to too)));
    free = λ none. absurd (none j p at is);
    sealed = λ none. absurd (none j p at is);
  }

-- the state of one in which none does
pub state_free : (image : Image) (s : ℕ) → HasNoLog image s → (info_of image s).count ≡ 0 → IsStateIn image s Free 0
state_free image s none count = record {
  open_at = λ k q to too. absurd (none k q to too);
  free = λ _ _. refl;
  sealed = λ _ some. absurd (omega arith);
}

pub state_sealed : (image : Image) (s : ℕ) → HasNoLog image s → (info_of image s).count ≢ 0 → IsStateIn image s Sealed 0
state_sealed image s none some = record {
  open_at = λ k q to too. absurd (none k q to too);
  free = λ _ count. absurd (some count);
  sealed = λ _ _. refl;
}

module _ (geometry : Geometry) (image : Image) (book table : TableId) where
  -- a segment whose blocks have all come
  pub segment_in : (loading : Loaded) (r : Registered) (number : ℕ) (state : State) (next mtime : ℕ) → number < geometry.segments → loading.shape ≡ geometry.shape → loading.number ≡ number
      → HasOwners geometry image number 0 loading.summaries → r.segment ≡ loaded_segment loading state next mtime → mtime ≡ (info_of image number).mtime → IsStateIn image number state next
      → r.book ≡ book → r.table ≡ table → IsSegmentIn geometry image book table number r
  segment_in loading r number state next mtime low shape number_is owners is time in_state book_is table_is = record {
    within = low;
    shape = ap (λ (s : Segment). s.shape) is ∙ shape;
    number_is = ap (λ (s : Segment). s.number) is ∙ number_is;
    owners = subst (HasOwners geometry image number 0) (sym (ap (λ (s : Segment). s.summaries) is)) owners;
    mtime = ap (λ (s : Segment). s.mtime) is ∙ time;
    state = subst (λ (s : Segment). IsStateIn image number s.state s.next) (sym is) in_state;
    book_is = book_is;
    table_is = table_is;
  }

  module _ (number : ℕ) (states : List Registered) (free : List FreeSegment) (logs : List (Option OpenSegment)) (before : AreSegmentsFrom geometry image book table (number + 1) states free logs)
      (r : Registered) (here : IsSegmentIn geometry image book table number r) where
    counts_on : length (states ++ r ∷ []) + number ≡ geometry.segments
    counts_on = let long = length-append states (r ∷ []) in let n = before.count in omega arith

    each_on : (k : ℕ) (other : Registered) → k < length (states ++ r ∷ []) → IsSegmentIn geometry image book table (geometry.segments - 1 - k) (get_or (states ++ r ∷ []) k other)
    each_on =
        let n = before.count in
        let place : number ≡ geometry.segments - 1 - length states = omega arith in
        each_push (λ k x. IsSegmentIn geometry image book table (geometry.segments - 1 - k) x) states r before.each (subst (λ m. IsSegmentIn geometry image book table m r) place here)

    same_slip : (h : FreeSegment → ℕ) → slip_weight h r ≡ when_free r.segment.state (h (fresh_slip table number))
    same_slip h = λ i. when_free r.segment.state (h (record { table = here.table_is i; segment = here.number_is i }))

    -- it is free
    pub goes_on_free : HasNoLog image number → r.segment.state ≡ Free → AreSegmentsFrom geometry image book table number (states ++ r ∷ []) (free ++ fresh_slip table number ∷ []) logs
    goes_on_free none is_free = record {
      count = counts_on;
      each = each_on;
      slips = λ h.
          (let old = before.slips h in
          let one = weigh-append h free (fresh_slip table number ∷ []) in
          let two = weigh-append (slip_weight h) states (r ∷ []) in
          let weight : slip_weight h r ≡ h (fresh_slip table number) = same_slip h ∙ ap (λ s. when_free s (h (fresh_slip table number))) is_free in
          omega arith);
      six = before.six;
      opened = λ k. before.opened k ∙ slip_same table number (get_or image.logs k None) (λ p e. none k p e);
    }

    -- it is sealed
    pub goes_on_sealed : HasNoLog image number → r.segment.state ≡ Sealed → AreSegmentsFrom geometry image book table number (states ++ r ∷ []) free logs
    goes_on_sealed none is_sealed = record {
      count = counts_on;
      each = each_on;
      slips = λ h.
          (let old = before.slips h in
          let two = weigh-append (slip_weight h) states (r ∷ []) in
          let weight : slip_weight h r ≡ 0 = same_slip h ∙ ap (λ s. when_free s (h (fresh_slip table number))) is_sealed in
          omega arith);
      six = before.six;
      opened = λ k. before.opened k ∙ slip_same table number (get_or image.logs k None) (λ p e. none k p e);
    }

    -- a log stands in it
    pub goes_on_open : (lawful : IsLawful geometry image) (j : ℕ) (p : LogHead) (slip : OpenSegment) → get_or image.logs j None ≡ Some p → p.segment ≡ number → r.segment.state ≡ Open
        → slip ≡ record { table = table; segment = number } → AreSegmentsFrom geometry image book table number (states ++ r ∷ []) free (set logs j (Some slip))
    goes_on_open lawful j p slip at is is_open slip_is = record {
      count = counts_on;
      each = each_on;
      slips = λ h.
          (let old = before.slips h in
          let two = weigh-append (slip_weight h) states (r ∷ []) in
          let weight : slip_weight h r ≡ 0 = same_slip h ∙ ap (λ s. when_free s (h (fresh_slip table number))) is_open in
          omega arith);
      six = length-set logs j (Some slip) ∙ before.six;
      opened = λ k. elim (cases_eq k j) [
        | inl e ↦
            let range = lawful 1 (omega arith) (omega arith) in
            let within : j < length logs = let low = some_within image.logs j p at in let many = range.logs in let six = before.six in omega arith in
            ap (λ i. get_or (set logs j (Some slip)) i None) e ∙ get_or-set_same logs j (Some slip) None within ∙ ap Some slip_is
            ∙ sym (slip_here table number p is) ∙ ap (slip_from table number) (sym at ∙ ap (λ i. get_or image.logs i None) (sym e))
        | inr apart ↦
            get_or-set_other logs j k (Some slip) None apart ∙ before.opened k
            ∙ slip_same table number (get_or image.logs k None) (λ q to same. logs_apart geometry image lawful k j q p to at apart (same ∙ sym is))
      ];
    }
