-- An index of a node is an entry and an index below it, quotient and remainder by the span: so a change below one entry
-- is a change of the whole at one index, and no other entry's.
use Rattle.std.proofs.Common.{Bool, ◌≡◌, ◌≢◌, ℕ, ◌+◌, ◌-◌, ◌*◌, ◌/◌, ◌%◌, ◌<◌, ◌≤◌, List, set, Option, Some, None, arith, ap, sym, inl, inr}
use Rattle.std.proofs.lemmas.List.{get_or-set_other}
use Rattle.std.proofs.lemmas.Nat.{div-mul-add, mod-mul-add, div-add-mod'}
use Rattle.std.proofs.lemmas.Bool.{cases_eq, cases_lt}
use Rattle.nodes.specs.declared.spare.Spare.{Spare}
use Rattle.nodes.specs.declared.spare.Spare.TheVariants.{Ticket, Token}
use Rattle.nodes.specs.Tree.{Same, SetsAt, SwapsOne, HandsOut, HandsOutAt, AreNone, UsefulIn, entry_at}

-- the entries but one stay
pub others_stay : {C : Type 0} (xs ys : List (Option C)) (at j : ℕ) (y : Option C) → ys ≡ set xs at y → j ≢ at → entry_at ys j ≡ entry_at xs j
others_stay xs ys at j y e ne = rw e (get_or-set_other xs at j y None ne)

-- what each node names below the entries, where one entry has changed and names as much as before
pub useful_below : {C : Type 0} (Useful : (ℕ → ℕ → Bool) → ℕ → Option C → Type 0) (span : ℕ) (asked : ℕ → ℕ → Bool) (first at : ℕ) (xs ys : List (Option C))
    → ys ≡ set xs at (entry_at ys at) → (Useful asked (first + at * span) (entry_at xs at) → Useful asked (first + at * span) (entry_at ys at))
    → UsefulIn Useful span asked first xs → UsefulIn Useful span asked first ys
useful_below Useful span asked first at xs ys set_at kept useful k = elim (cases_eq k at) [
  | inl e ↦ rw e (kept (useful at))
  | inr ne ↦ rw (others_stay xs ys at k (entry_at ys at) set_at ne) (useful k)
]

module _ {C L : Type 0} (find : Option C → ℕ → Option L) (span : ℕ) (xs ys : List (Option C)) (at : ℕ)
    (set_at : ys ≡ set xs at (entry_at ys at)) where
  pub same_below : Same (find (entry_at xs at)) (find (entry_at ys at))
      → (j : ℕ) → find (entry_at ys (j / span)) (j % span) ≡ find (entry_at xs (j / span)) (j % span)
  same_below same j = elim (cases_eq (j / span) at) [
    | inl e ↦ rw e (same (j % span))
    | inr ne ↦ ap (λ x. find x (j % span)) (others_stay xs ys at (j / span) (entry_at ys at) set_at ne)
  ]

  pub sets_below : (i : ℕ) (v : Option L) → i < span → SetsAt (find (entry_at xs at)) (find (entry_at ys at)) i v
      → SetsAt (λ j. find (entry_at xs (j / span)) (j % span)) (λ j. find (entry_at ys (j / span)) (j % span)) (at * span + i) v
  sets_below i v lt h =
      let d : (at * span + i) / span ≡ at = div-mul-add at span i lt in
      let m : (at * span + i) % span ≡ i = mod-mul-add at span i lt in
      let there = h.0 in
      let others = h.1 in (
        rw (d, m) there,
        λ j ne.
            elim (cases_eq (j / span) at) [
              | inl e ↦ rw e (others (j % span) (λ q. ne (sym (rw (e, q) at (div-add-mod' j span)))))
              | inr off ↦ ap (λ x. find x (j % span)) (others_stay xs ys at (j / span) (entry_at ys at) set_at off)
            ],
      )

  pub erases_below : (i : ℕ) (spare : Spare L) → i < span → HandsOutAt (find (entry_at xs at)) (find (entry_at ys at)) i spare
      → HandsOutAt (λ j. find (entry_at xs (j / span)) (j % span)) (λ j. find (entry_at ys (j / span)) (j % span)) (at * span + i) spare
  erases_below i (Token t) lt same = same_below same
  erases_below i (Ticket t) lt h =
      let d : (at * span + i) / span ≡ at = div-mul-add at span i lt in
      let m : (at * span + i) % span ≡ i = mod-mul-add at span i lt in
      (rw (d, m) h.0, sets_below i None lt h.1)

  module _ (bound : (i : ℕ) → span ≤ i → find (entry_at xs at) i ≡ None) where
    inside : (t : L) (i : ℕ) → find (entry_at xs at) i ≡ Some t → i < span
    inside t i e = elim (cases_lt i span) [ inl lt ↦ lt | inr ge ↦ let none = bound i ge in cc ]

    found : (t : L) (i : ℕ) → i < span → find (entry_at xs at) i ≡ Some t → find (entry_at xs ((at * span + i) / span)) ((at * span + i) % span) ≡ Some t
    found t i lt e =
        let d : (at * span + i) / span ≡ at = div-mul-add at span i lt in
        let m : (at * span + i) % span ≡ i = mod-mul-add at span i lt in
        rw (d, m) e

    pub swaps_below : (before after : L) → SwapsOne (find (entry_at xs at)) (find (entry_at ys at)) before after
        → SwapsOne (λ j. find (entry_at xs (j / span)) (j % span)) (λ j. find (entry_at ys (j / span)) (j % span)) before after
    swaps_below before after h =
        let lt = inside before h.0 h.1 in
        (at * span + h.0, found before h.0 lt h.1, sets_below h.0 (Some after) lt h.2)

    pub hands_below : (from : ℕ) (spare : Spare L)
        → HandsOut (find (entry_at xs at)) (find (entry_at ys at)) (from - at * span) spare
        → HandsOut (λ j. find (entry_at xs (j / span)) (j % span)) (λ j. find (entry_at ys (j / span)) (j % span)) from spare
    hands_below from (Token t) same = same_below same
    hands_below from (Ticket t) h =
        let i = h.0 in
        let lt = inside t i h.2 in
        let far : from - at * span ≤ i = h.1 in
        (at * span + i, omega arith, found t i lt h.2, sets_below i None lt h.3)

-- entries below which a ticket stands name something
pub names_some : {C L : Type 0} (find : Option C → ℕ → Option L) (span : ℕ) → ((i : ℕ) → find None i ≡ None)
    → (xs : List (Option C)) (i : ℕ) (t : L) → find (entry_at xs (i / span)) (i % span) ≡ Some t → AreNone xs → ⊥
names_some find span none xs i t is empty =
    let nothing = ap (λ x. find x (i % span)) (empty (i / span)) in
    let gone = none (i % span) in
    cc
