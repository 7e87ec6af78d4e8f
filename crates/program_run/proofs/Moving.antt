-- Each number names one place at most, whose item goes from the one list to the other: so after all numbers the places
-- named are in the share, and joined place by place all are back.
use Rattle.std.proofs.Common.{◌≡◌, ◌≢◌, ◌⊎◌, ◌∙◌, ℕ, ◌+◌, ◌<◌, ◌≤◌, ap, sym, refl, subst, arith, inl, inr, List, [], ◌∷◌, ◌++◌, length, get_or, set, replicate, Option, Some, None}
use Rattle.std.specs.List.{Contains}
use Rattle.std.specs.Option.{option_or}
use Rattle.std.proofs.lemmas.Bool.{cases_eq}
use Rattle.std.proofs.lemmas.List.{get_or-set_same, get_or-set_other, get_or-replicate, length-set, length-replicate}
use Rattle.std.proofs.lemmas.List.Elements.{Contains-append_left, Contains-push, Contains-push_cases}
use Rattle.program_run.specs.Share.{AreJoined, AreMoved}

-- the item of this place was moved, or none of the numbers names it
abbrev pub IsMovedAt : {T : Type 0} → List ℕ → List (Option T) → List (Option T) → List (Option T) → ℕ → Type 0
IsMovedAt numbers old share rest k =
    (Contains numbers (k + 1) × (get_or share k None ≡ get_or old k None) × (get_or rest k None ≡ None))
    ⊎ ((¬ (Contains numbers (k + 1))) × (get_or share k None ≡ None) × (get_or rest k None ≡ get_or old k None))

-- so many numbers were gone through
pub record AreMovedSoFar {T : Type 0} (numbers : List ℕ) (old share rest : List (Option T)) : Type 0 where
  pub share_count : length share ≡ length old
  pub rest_count : length rest ≡ length old
  pub places : (k : ℕ) → k < length old → IsMovedAt numbers old share rest k

-- what a place has once the item of another one has come to it
abbrev pub joined : {T : Type 0} → List (Option T) → List (Option T) → ℕ → List (Option T)
joined from to place = set to place (option_or (get_or from place None) (get_or to place None))

or_none : {T : Type 0} (o : Option T) → option_or o None ≡ o
or_none None = refl
or_none (Some x) = refl

none_in : {X : Type 0} (x : X) → ¬ (Contains [] x)
none_in x (k, low, is) = absurd (omega arith)

module _ {T : Type 0} (old : List (Option T)) where
  pub none_moved : (share : List (Option T)) → share ≡ replicate (length old) None → AreMovedSoFar [] old share old
  none_moved share is = record {
    share_count = ap length is ∙ length-replicate (length old) None;
    rest_count = refl;
    places = λ k low. inr (none_in (k + 1), ap (λ (s : List (Option T)). get_or s k None) is ∙ get_or-replicate (length old) k None None low, refl);
  }

  -- a place that the next number does not name
  other : (numbers : List ℕ) (number : ℕ) (share rest share' rest' : List (Option T)) (k : ℕ) → number ≢ k + 1
      → get_or share' k None ≡ get_or share k None → get_or rest' k None ≡ get_or rest k None
      → IsMovedAt numbers old share rest k → IsMovedAt (numbers ++ number ∷ []) old share' rest' k
  other numbers number share rest share' rest' k differs same_share same_rest (inl (named, moved, gone)) =
      inl (Contains-append_left numbers (number ∷ []) (k + 1) named, same_share ∙ moved, same_rest ∙ gone)
  other numbers number share rest share' rest' k differs same_share same_rest (inr (unnamed, none, stays)) =
      inr (λ named. unnamed_still (Contains-push_cases numbers number (k + 1) named), same_share ∙ none, same_rest ∙ stays)
    where
      unnamed_still : Contains numbers (k + 1) ⊎ (number ≡ k + 1) → ⊥
      unnamed_still (inl before) = unnamed before
      unnamed_still (inr is) = differs is

  -- the place that the next number names
  named_one : (numbers : List ℕ) (number : ℕ) (share rest share' rest' : List (Option T)) (k : ℕ) → number ≡ k + 1
      → get_or share' k None ≡ option_or (get_or rest k None) (get_or share k None) → get_or rest' k None ≡ None
      → IsMovedAt numbers old share rest k → IsMovedAt (numbers ++ number ∷ []) old share' rest' k
  named_one numbers number share rest share' rest' k is share_is rest_is (inl (named, moved, gone)) =
      inl (
        subst (Contains (numbers ++ number ∷ [])) is (Contains-push numbers number),
        share_is ∙ ap (λ o. option_or o (get_or share k None)) gone ∙ moved,
        rest_is,
      )
  named_one numbers number share rest share' rest' k is share_is rest_is (inr (unnamed, none, stays)) =
      inl (
        subst (Contains (numbers ++ number ∷ [])) is (Contains-push numbers number),
        share_is ∙ ap (option_or (get_or rest k None)) none ∙ or_none (get_or rest k None) ∙ stays,
        rest_is,
      )

  -- the next number is that of a place
  pub one_moved : (numbers : List ℕ) (number place : ℕ) (share rest share' rest' : List (Option T)) → number ≡ place + 1 → place < length old
      → share' ≡ joined rest share place → rest' ≡ set rest place None
      → AreMovedSoFar numbers old share rest → AreMovedSoFar (numbers ++ number ∷ []) old share' rest'
  one_moved numbers number place share rest share' rest' is low share_is rest_is before =
      let item = option_or (get_or rest place None) (get_or share place None) in record {
        share_count = ap length share_is ∙ length-set share place item ∙ before.share_count;
        rest_count = ap length rest_is ∙ length-set rest place None ∙ before.rest_count;
        places = λ k within. elim (cases_eq k place) [
          | inl e ↦
              let in_share : k < length share = omega (arith, before.share_count) in
              let in_rest : k < length rest = omega (arith, before.rest_count) in
              named_one numbers number share rest share' rest' k (is ∙ ap (λ j. j + 1) (sym e))
              (ap (λ (s : List (Option T)). get_or s k None) (share_is ∙ ap (joined rest share) (sym e)) ∙ get_or-set_same share k (option_or (get_or rest k None) (get_or share k None)) None in_share)
              (ap (λ (r : List (Option T)). get_or r k None) (rest_is ∙ ap (λ j. set rest j None) (sym e)) ∙ get_or-set_same rest k None None in_rest)
              (before.places k within)
          | inr ne ↦
              other numbers number share rest share' rest' k (λ same. ne (omega arith))
              (ap (λ (s : List (Option T)). get_or s k None) share_is ∙ get_or-set_other share place k item None ne)
              (ap (λ (r : List (Option T)). get_or r k None) rest_is ∙ get_or-set_other rest place k None None ne)
              (before.places k within)
        ];
      }

  -- the next number is that of no place
  pub none_more : (numbers : List ℕ) (number : ℕ) (share rest : List (Option T)) → ((k : ℕ) → k < length old → number ≢ k + 1)
      → AreMovedSoFar numbers old share rest → AreMovedSoFar (numbers ++ number ∷ []) old share rest
  none_more numbers number share rest past before = record {
    share_count = before.share_count;
    rest_count = before.rest_count;
    places = λ k within. other numbers number share rest share rest k (past k within) refl refl (before.places k within);
  }

  -- all numbers were gone through
  pub all_moved : (numbers : List ℕ) (share rest : List (Option T)) → AreMovedSoFar numbers old share rest → AreMoved (Contains numbers) old share rest
  all_moved numbers share rest moved = record {
    share_count = moved.share_count;
    rest_count = moved.rest_count;
    moved = λ k low named. elim (moved.places k low) [ inl m ↦ (m.1, m.2) | inr s ↦ absurd (s.0 named) ];
    stayed = λ k low unnamed. elim (moved.places k low) [ inl m ↦ absurd (unnamed m.0) | inr s ↦ (s.1, s.2) ];
  }

-- the places below this one have what comes back, and the others are as they were
pub record AreJoinedSoFar {T : Type 0} (place : ℕ) (share rest from to : List (Option T)) : Type 0 where
  pub from_count : length from ≡ length share
  pub to_count : length to ≡ length rest
  pub below : (k : ℕ) → k < place → k < length rest → get_or to k None ≡ option_or (get_or share k None) (get_or rest k None)
  pub from_still : (k : ℕ) → place ≤ k → get_or from k None ≡ get_or share k None
  pub to_still : (k : ℕ) → place ≤ k → get_or to k None ≡ get_or rest k None

module _ {T : Type 0} (share rest : List (Option T)) where
  pub none_joined : AreJoinedSoFar 0 share rest share rest
  none_joined = record {
    from_count = refl;
    to_count = refl;
    below = λ k low within. absurd (omega arith);
    from_still = λ k high. refl;
    to_still = λ k high. refl;
  }

  -- what the next place has
  pub one_joined : (place : ℕ) (from to from' to' : List (Option T)) → from' ≡ set from place None → to' ≡ joined from to place
      → AreJoinedSoFar place share rest from to → AreJoinedSoFar (place + 1) share rest from' to'
  one_joined place from to from' to' from_is to_is before =
      let item = option_or (get_or from place None) (get_or to place None) in record {
        from_count = ap length from_is ∙ length-set from place None ∙ before.from_count;
        to_count = ap length to_is ∙ length-set to place item ∙ before.to_count;
        below = λ k low within. elim (cases_eq k place) [
          | inl e ↦
              let in_to : k < length to = omega (arith, before.to_count) in
              let high : place ≤ k = omega arith in
              ap (λ (s : List (Option T)). get_or s k None) (to_is ∙ ap (joined from to) (sym e))
              ∙ get_or-set_same to k (option_or (get_or from k None) (get_or to k None)) None in_to
              ∙ ap (λ o. option_or o (get_or to k None)) (before.from_still k high)
              ∙ ap (option_or (get_or share k None)) (before.to_still k high)
          | inr ne ↦
              let lower : k < place = omega arith in
              ap (λ (s : List (Option T)). get_or s k None) to_is ∙ get_or-set_other to place k item None ne ∙ before.below k lower within
        ];
        from_still = λ k high.
            let ne : k ≢ place = omega arith in
            let high' : place ≤ k = omega arith in
            ap (λ (s : List (Option T)). get_or s k None) from_is ∙ get_or-set_other from place k None None ne ∙ before.from_still k high';
        to_still = λ k high.
            let ne : k ≢ place = omega arith in
            let high' : place ≤ k = omega arith in
            ap (λ (s : List (Option T)). get_or s k None) to_is ∙ get_or-set_other to place k item None ne ∙ before.to_still k high';
      }

  -- all places have it
  pub all_joined : (place : ℕ) (from to : List (Option T)) → length rest ≤ place → AreJoinedSoFar place share rest from to → AreJoined rest share to
  all_joined place from to past joined = record { count = joined.to_count; places = λ k within. joined.below k (omega arith) within }
