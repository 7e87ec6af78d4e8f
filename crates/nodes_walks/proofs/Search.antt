-- Below each entry lie as many indexes as its span, one entry behind another: so entries that were passed have nothing,
-- and the first thing found is the next of all.
use Rattle.std.proofs.Common.{◌≡◌, ℕ, ◌+◌, ◌-◌, ◌*◌, ◌/◌, ◌%◌, ◌<◌, ◌≤◌, List, Option, Some, None, IsSome, is_some, refl, sym, ap, ◌∙◌, subst, inl, inr, arith}
use Rattle.std.proofs.lemmas.Nat.{div-mul-add, mod-mul-add}
use Rattle.std.proofs.lemmas.Bool.{cases_lt}
use Rattle.nodes.specs.Tree.{EmptyFrom, entry_at, find_in}
use Rattle.nodes_walks.specs.Data.{IsNextData}

-- a map has something only where it is not past its width
pub within_width : {L : Type 0} (at : ℕ → Option L) (width from i : ℕ) → ((j : ℕ) → width ≤ j → at j ≡ None) → IsNextData at from (Some i) → i < width
within_width at width from i past next = elim (cases_lt i width) [
  | inl lt ↦ lt
  | inr ge ↦ let some : IsSome (at i) = next.1 in let none = past i ge in absurd (let no = sym some ∙ ap is_some none in cc)
]

module _ {C L : Type 0} (find : Option C → ℕ → Option L) (span : ℕ) (slots : List (Option C)) (from : ℕ) where
  -- no index before this one has anything
  abbrev pub Passed : ℕ → Type 0
  Passed to = (j : ℕ) → from ≤ j → j < to → find_in find span slots j ≡ None

  module _ (at : ℕ) where
    below : (i : ℕ) → i < span → find_in find span slots (at * span + i) ≡ find (entry_at slots at) i
    below i lt =
        let d : (at * span + i) / span ≡ at = div-mul-add at span i lt in
        let m : (at * span + i) % span ≡ i = mod-mul-add at span i lt in
        rw (d, m) refl

    behind : (j : ℕ) → at * span ≤ j → j < at * span + span → find_in find span slots j ≡ find (entry_at slots at) (j - at * span)
    behind j le lt =
        let e : at * span + (j - at * span) ≡ j = omega arith in
        ap (find_in find span slots) (sym e) ∙ below (j - at * span) (omega arith)

    -- nothing stands below this entry
    pub passed_entry : Passed (at * span) → EmptyFrom (find (entry_at slots at)) (from - at * span) → Passed (at * span + span)
    passed_entry before empty j le lt = elim (cases_lt j (at * span)) [
      | inl low ↦ before j le low
      | inr high ↦ behind j high lt ∙ empty (j - at * span) (omega arith)
    ]

    -- the next one stands below this entry
    pub found_entry : ((i : ℕ) → span ≤ i → find (entry_at slots at) i ≡ None) → Passed (at * span) → (i : ℕ)
        → IsNextData (find (entry_at slots at)) (from - at * span) (Some i) → IsNextData (find_in find span slots) from (Some (at * span + i))
    found_entry past before i next =
        let inside = within_width (find (entry_at slots at)) span (from - at * span) i past next in
        let far : from - at * span ≤ i = next.0 in (
          omega arith,
          subst (λ x. IsSome x) (sym (below i inside)) next.1,
          λ j le lt. elim (cases_lt j (at * span)) [
            | inl low ↦ before j le low
            | inr high ↦ behind j high (omega arith) ∙ next.2 (j - at * span) (omega arith) (omega arith)
          ],
        )

    -- and so does what is said of it
    pub found_with : (P : Option L → Type 0) → ((i : ℕ) → span ≤ i → find (entry_at slots at) i ≡ None) → (i : ℕ)
        → IsNextData (find (entry_at slots at)) (from - at * span) (Some i) → P (find (entry_at slots at) i) → P (find_in find span slots (at * span + i))
    found_with P past i next so = subst P (sym (below i (within_width (find (entry_at slots at)) span (from - at * span) i past next))) so

-- nothing stands below any entry
pub passed_all : {C L : Type 0} (find : Option C → ℕ → Option L) (span : ℕ) (slots : List (Option C)) (from to : ℕ)
    → Passed find span slots from to → ((j : ℕ) → to ≤ j → find_in find span slots j ≡ None) → EmptyFrom (find_in find span slots) from
passed_all find span slots from to before past j le = elim (cases_lt j to) [
  | inl low ↦ before j le low
  | inr high ↦ past j high
]
