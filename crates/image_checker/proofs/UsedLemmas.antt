-- Where all numbers from one place on are 0, those before it say what all do.
use Rattle.std.proofs.Common.{◌≡◌, ◌≢◌, ℕ, zero, suc, ◌+◌, ◌-◌, ◌<◌, ◌≤◌, min, List, [], ◌∷◌, ◌++◌, length, take, drop, get_or, refl, sym, ap, subst, ◌∙◌, inl, inr, arith}
use Rattle.std.specs.Prelude.{All}
use Rattle.std.proofs.lemmas.Bool.{cases_lt}
use Rattle.std.proofs.lemmas.List.{length-take, get_or-take, get_or-drop, get_or_past, get_or_default, append-nil}
use Rattle.geometry.specs.declared.owner.Mark.{Mark}
use Rattle.image.specs.Walk.{data_names}
use Rattle.image_checker.proofs.NamedLemmas.{data_split}

-- zeros name no data
no_data : (nid from : ℕ) (xs : List ℕ) → ((k : ℕ) → get_or xs k 0 ≡ 0) → data_names nid from xs ≡ []
no_data nid from [] none = refl
no_data nid from (zero ∷ xs) none = no_data nid (from + 1) xs (λ k. none (suc k))
no_data nid from (suc x ∷ xs) none = let here = none 0 in absurd (omega arith)

module _ (xs : List ℕ) (n : ℕ) (past : (k : ℕ) → n ≤ k → get_or xs k 0 ≡ 0) where
  pub data_used : (nid : ℕ) → data_names nid 0 (take n xs) ≡ data_names nid 0 xs
  data_used nid =
      let rest = no_data nid (0 + n) (drop n xs) (λ k. get_or-drop n xs k 0 ∙ past (n + k) (omega arith)) in
      sym (data_split nid 0 n xs ∙ ap (λ ns. data_names nid 0 (take n xs) ++ ns) rest ∙ append-nil (data_names nid 0 (take n xs)))

  pub all_used : (bound : ℕ) → All (λ a. a ≤ bound) (take n xs) → All (λ a. a ≤ bound) xs
  all_used bound all k d within = elim (cases_lt k n) [
    | inl lt ↦
        let few = length-take n xs in
        let here : get_or (take n xs) k d ≤ bound = all k d (omega arith) in
        subst (λ a. a ≤ bound) (get_or-take n xs k d lt) here
    | inr ge ↦
        let none : get_or xs k d ≡ 0 = get_or_default xs k d 0 within ∙ past k ge in
        omega arith
  ]

pub all_front : (xs : List ℕ) (n bound : ℕ) → All (λ a. a ≤ bound) xs → All (λ a. a ≤ bound) (take n xs)
all_front xs n bound all k d within =
    let few = length-take n xs in
    let here : get_or xs k d ≤ bound = all k d (omega arith) in
    subst (λ a. a ≤ bound) (sym (get_or-take n xs k d (omega arith))) here

-- the least such place of the first numbers tells where the last of them that is not 0 stands
module _ (xs : List ℕ) (some used limit : ℕ) (few : some ≤ length xs) (within : used ≤ length (take some xs)) (past : (k : ℕ) → used ≤ k → get_or (take some xs) k 0 ≡ 0)
    (least : 0 < used → get_or (take some xs) (used - 1) 0 ≢ 0) where
  pub ends_used : used ≤ limit → (k : ℕ) → k < some → get_or xs k 0 ≢ 0 → k < limit
  ends_used le k lt there = elim (cases_lt k used) [
    | inl low ↦ omega arith
    | inr ge ↦ absurd (there (sym (get_or-take some xs k 0 lt) ∙ past k ge))
  ]

  pub used_ends : ((k : ℕ) → k < some → get_or xs k 0 ≢ 0 → k < limit) → used ≤ limit
  used_ends ends = elim (cases_lt limit used) [
    | inl over ↦
        let size = length-take some xs in
        let at : used - 1 < some = omega arith in
        let low : used - 1 < limit = ends (used - 1) at (λ none. least (omega arith) (get_or-take some xs (used - 1) 0 at ∙ none)) in
        absurd (omega arith)
    | inr le ↦ le
  ]
