-- Segments are runs of addresses apart from one another, so an address has one mark at most, and thus one node at most:
-- what is found there is that node's bytes.
use Rattle.std.proofs.Common.{◌≡◌, ◌≢◌, refl, sym, ◌∙◌, ap, subst, ℕ, suc, ◌+◌, ◌<◌, ◌≤◌, ◌==◌, ◌⊎◌, inl, inr, Bool, true, false, List, [], ◌∷◌, length, if◌then◌else◌, eq-eqb, arith}
use Rattle.std.specs.Prelude.{Option, Some, None, slice_get}
use Rattle.std.proofs.lemmas.Bool.Decides.{eqb_tells, leb_tells}
use Rattle.geometry.specs.declared.geometry.Geometry.{Geometry}
use Rattle.geometry.specs.declared.owner.Owner.{Owner}
use Rattle.geometry.specs.declared.owner.Mark.{Mark}
use Rattle.geometry.specs.Shape.{segment_blocks}
use Rattle.geometry.specs.Address.{address_of}
use Rattle.geometry.proofs.Addresses.{address_of-next}
use Rattle.geometry.specs.Weights.{weigh}
use Rattle.rights_books.specs.declared.claim.TakenNumber.{TakenNumber}
use Rattle.rights_books.specs.declared.claim.Copied.{Copied}
use Rattle.rights_books.specs.Lists.{times}
use Rattle.rights_books.specs.Sameness.{same_entry}
use Rattle.rights_books.proofs.Sameness.{entry_eq}
use Rattle.rights_books.specs.Rules.{Balanced as AreSettled}
use Rattle.rights_books.specs.Weights.{of_entry}
use Rattle.sit.specs.Summaries.{marks_from}
use Rattle.sit.specs.Segment.{Segment, marks_of}
use Rattle.nat.specs.Shard.{ShardNodes}
use Rattle.nat.specs.Table.{all_taken}
use Rattle.checkpoint_image.specs.Cells.{Cells, CellsLaw, IsSegmentAt}
use Rattle.checkpoint_image.specs.Audited.{AreCopies}
use Rattle.checkpoint_image.specs.Blocks.{node_bytes_at, blocks_of, HoldNodes}
use Rattle.checkpoint_image.proofs.Written.{weigh_all_taken}

abbrev at_mark : ℕ → Mark → ℕ
at_mark a m = if m.address == a then 1 else 0

abbrev at_entry : ℕ → TakenNumber → ℕ
at_entry a e = if e.address == a then 1 else 0

hit : (a b : ℕ) → b ≡ a → ◌≡◌ {A = ℕ} (if b == a then 1 else 0) 1
hit a b e = rw (eq-eqb b a e) refl

miss : (a b : ℕ) → b ≢ a → ◌≡◌ {A = ℕ} (if b == a then 1 else 0) 0
miss a b apart = elim (eqb_tells b a) [ inl (t, e) ↦ absurd (apart e) | inr (t, n) ↦ rw t refl ]

-- the marks of a run of blocks: none outside of it, and one at most at each address
outside : (a b : ℕ) (xs : List (Option Owner)) → (a < b) ⊎ (b + length xs ≤ a) → weigh (at_mark a) (marks_from b xs) ≡ 0
outside a b [] far = refl
outside a b (None ∷ xs) (inl low) = outside a (suc b) xs (inl (omega arith))
outside a b (None ∷ xs) (inr high) = outside a (suc b) xs (inr (omega arith))
outside a b (Some o ∷ xs) (inl low) =
    let here = miss a b (λ e. omega arith) in let there = outside a (suc b) xs (inl (omega arith)) in omega arith
outside a b (Some o ∷ xs) (inr high) =
    let here = miss a b (λ e. omega arith) in let there = outside a (suc b) xs (inr (omega arith)) in omega arith

one_in : (a b : ℕ) (xs : List (Option Owner)) → weigh (at_mark a) (marks_from b xs) ≤ 1
one_in a b [] = omega arith
one_in a b (None ∷ xs) = one_in a (suc b) xs
one_in a b (Some o ∷ xs) =
    elim (eqb_tells b a) [
      | inl (t, e) ↦ let here = hit a b e in let there = outside a (suc b) xs (inl (omega arith)) in omega arith
      | inr (t, n) ↦ let here = miss a b n in let there = one_in a (suc b) xs in omega arith
    ]

module _ (geometry : Geometry) (a : ℕ) where
  abbrev start : ℕ → ℕ
  start k = address_of geometry.shape k 0

  abbrev in_segment : Segment → ℕ
  in_segment s = weigh (at_mark a) (marks_of s)

  next_start : (k : ℕ) → start k + segment_blocks geometry.shape ≡ start (suc k)
  next_start k =
      let e = address_of-next geometry.shape k in
      let one : k + 1 ≡ suc k = omega arith in
      let same : start (k + 1) ≡ start (suc k) = ap start one in omega arith

  base : (k : ℕ) (s : Segment) → IsSegmentAt geometry k s → address_of s.shape s.number 0 ≡ start k
  base k s is = λ i. address_of (is.shape i) (is.number i) 0

  long : (k : ℕ) (s : Segment) → IsSegmentAt geometry k s → length s.summaries ≡ segment_blocks geometry.shape
  long k s is = is.sized ∙ ap segment_blocks is.shape

  -- none below the first segment, and one at most
  few_from : (k : ℕ) (xs : List Segment) → ((j : ℕ) (s : Segment) → slice_get xs j ≡ Some s → IsSegmentAt geometry (k + j) s)
      → (a < start k → weigh in_segment xs ≡ 0) × (weigh in_segment xs ≤ 1)
  few_from k [] law = (λ low. refl, omega arith)
  few_from k (s ∷ xs) law = go (few_from (suc k) xs (λ j t at. shift j t (law (suc j) t at)))
    where
      shift : (j : ℕ) (t : Segment) → IsSegmentAt geometry (k + suc j) t → IsSegmentAt geometry (suc k + j) t
      shift j t is = let e : k + suc j ≡ suc k + j = omega arith in subst (λ (n : ℕ). IsSegmentAt geometry n t) e is

      is : IsSegmentAt geometry k s
      is = let e : k + 0 ≡ k = omega arith in subst (λ (n : ℕ). IsSegmentAt geometry n s) e (law 0 s refl)

      go : (a < start (suc k) → weigh in_segment xs ≡ 0) × (weigh in_segment xs ≤ 1) → (a < start k → in_segment s + weigh in_segment xs ≡ 0) × (in_segment s + weigh in_segment xs ≤ 1)
      go rest =
          let b = base k s is in
          let l = long k s is in
          let n = next_start k in (
            (λ low. let here = outside a (address_of s.shape s.number 0) s.summaries (inl (omega arith)) in let there = rest.0 (omega arith) in omega arith),
            elim (leb_tells (suc a) (start (suc k))) [
              | inl (t, low) ↦ let here = one_in a (address_of s.shape s.number 0) s.summaries in let there = rest.0 low in omega arith
              | inr (t, high) ↦ let here = outside a (address_of s.shape s.number 0) s.summaries (inr (omega arith)) in let there = rest.1 in omega arith
            ],
          )

weigh_same : {A : Type 0} (f g : A → ℕ) (xs : List A) → ((x : A) → f x ≡ g x) → weigh f xs ≡ weigh g xs
weigh_same f g [] same = refl
weigh_same f g (x ∷ xs) same = let here = same x in let there = weigh_same f g xs same in omega arith

ticket_at : (a : ℕ) → 0 < a → (e : TakenNumber) → at_entry a e ≡ of_entry (at_mark a) e
ticket_at a some e = go (eqb_tells e.address 0)
  where
    go : ((e.address == 0) ≡ true) × (e.address ≡ 0) ⊎ ((e.address == 0) ≡ false) × (e.address ≢ 0) → at_entry a e ≡ of_entry (at_mark a) e
    go (inl (t, none)) = rw t (miss a e.address (λ same. omega arith))
    go (inr (t, there)) = rw t refl

-- where an address has one entry at most, its bytes are found
counted : (a : ℕ) (e : TakenNumber) (es : List TakenNumber) → 0 < times same_entry e es → e.address ≡ a → 0 < weigh (at_entry a) es
counted a e [] some is = absurd (omega arith)
counted a e (y ∷ es) some is = go (same_entry e y) refl some (λ more. counted a e es more is)
  where
    go : (b : Bool) → same_entry e y ≡ b → 0 < (if b then 1 else 0) + times same_entry e es → (0 < times same_entry e es → 0 < weigh (at_entry a) es)
        → 0 < at_entry a y + weigh (at_entry a) es
    go true same few rest = let one = hit a y.address (sym (ap (λ (x : TakenNumber). x.address) (entry_eq e y same)) ∙ is) in omega arith
    go false same few rest = let more = rest (omega arith) in omega arith

found_bytes : (a : ℕ) (e : TakenNumber) (es : List TakenNumber) → weigh (at_entry a) es ≤ 1 → 0 < times same_entry e es → e.address ≡ a → node_bytes_at es a ≡ e.bytes
found_bytes a e [] single some is = absurd (omega arith)
found_bytes a e (y ∷ es) single some is = go (same_entry e y) refl some (eqb_tells y.address a) (λ few more. found_bytes a e es few more is)
  where
    go : (b : Bool) → same_entry e y ≡ b → 0 < (if b then 1 else 0) + times same_entry e es
        → ((y.address == a) ≡ true) × (y.address ≡ a) ⊎ ((y.address == a) ≡ false) × (y.address ≢ a)
        → (weigh (at_entry a) es ≤ 1 → 0 < times same_entry e es → node_bytes_at es a ≡ e.bytes)
        → node_bytes_at (y ∷ es) a ≡ e.bytes
    go true same few tells rest =
        let y_is = sym (entry_eq e y same) in
        let here : (y.address == a) ≡ true = eq-eqb y.address a (ap (λ (x : TakenNumber). x.address) y_is ∙ is) in
        rw here (ap (λ (x : TakenNumber). x.bytes) y_is)
    go false same few (inl (t, at)) rest =
        let one = hit a y.address at in
        let more = counted a e es (omega arith) is in
        absurd (omega arith)
    go false same few (inr (t, apart)) rest =
        let none = miss a y.address apart in
        rw t (rest (omega arith) (omega arith))

pub blocks_hold : (geometry : Geometry) (cells : Cells) (copies : List Copied) → CellsLaw geometry cells → AreCopies cells copies → AreSettled copies
    → HoldNodes (blocks_of cells) cells
blocks_hold geometry cells copies law are settled e some there =
    let a = e.address in
    let marks = are.marks (at_mark a) in
    let tickets = are.tickets (at_mark a) in
    let even = settled.tickets (at_mark a) in
    let few = few_from geometry a 0 cells.segments (λ j s at. zero_add j s (law.segments j s at)) in
    let all = weigh_all_taken (at_entry a) cells.shards in
    let same = weigh_same (λ (s : ShardNodes). weigh (at_entry a) s.taken) (λ (s : ShardNodes). weigh (of_entry (at_mark a)) s.taken) cells.shards
    (λ s. weigh_same (at_entry a) (of_entry (at_mark a)) s.taken (ticket_at a there)) in
    let once = few.1 in
    found_bytes a e (all_taken cells.shards) (omega arith) some refl
  where
    zero_add : (j : ℕ) (s : Segment) → IsSegmentAt geometry j s → IsSegmentAt geometry (0 + j) s
    zero_add j s is = let e : j ≡ 0 + j = omega arith in subst (λ (n : ℕ). IsSegmentAt geometry n s) e is
