-- Items keep their place in the whole while those before them are taken: so what holds of each item holds of the rest
-- with its places, and at the end nothing stands in the table.
use Rattle.std.proofs.Common.{◌≡◌, ℕ, zero, suc, ◌+◌, ◌<◌, ◌≤◌, List, [], ◌∷◌, length, get_or, set, Option, Some, None, inl, inr, refl, sym, ap, ◌∙◌, subst, arith}
use Rattle.std.proofs.lemmas.Bool.{cases_eq}
use Rattle.std.proofs.lemmas.List.{get_or-set_same, get_or-set_other}
use Rattle.geometry.specs.Weights.{weigh}
use Rattle.mount_blocks.specs.TreeGoods.{in_place}

module _ {A : Type 0} (P : ℕ → A → Type 0) where
  -- the items have the places from this one on
  abbrev pub EachFrom : ℕ → List A → Type 0
  EachFrom i xs = (k : ℕ) (other : A) → k < length xs → P (i + k) (get_or xs k other)

  pub begin_from : (xs : List A) → ((k : ℕ) (other : A) → k < length xs → P k (get_or xs k other)) → EachFrom 0 xs
  begin_from xs each k other low = let same : k ≡ 0 + k = omega arith in subst (λ n. P n (get_or xs k other)) same (each k other low)

  pub first_of : (i : ℕ) (xs rest : List A) (x : A) → xs ≡ x ∷ rest → EachFrom i xs → P i x
  first_of i xs rest x is each =
      let all = subst (EachFrom i) is each in
      let same : i + 0 ≡ i = omega arith in
      subst (λ n. P n x) same (all 0 x (omega arith))

  pub rest_of : (i : ℕ) (xs rest : List A) (x : A) → xs ≡ x ∷ rest → EachFrom i xs → EachFrom (i + 1) rest
  rest_of i xs rest x is each k other low =
      let all = subst (EachFrom i) is each in
      let same : i + suc k ≡ i + 1 + k = omega arith in
      subst (λ n. P n (get_or rest k other)) same (all (suc k) other (omega arith))

-- ---- a table out of which things are taken place by place

module _ {A : Type 0} (xs ys : List (Option A)) (m : ℕ) (y : Option A) (none : y ≡ None) (within : m + 1 < length xs)
    (later : (k : ℕ) → m < k → get_or xs k None ≡ get_or ys k None) (gone : (k : ℕ) → k ≤ m → get_or xs k None ≡ None) where
  pub later_kept : (k : ℕ) → m + 1 < k → get_or (set xs (m + 1) y) k None ≡ get_or ys k None
  later_kept k high = get_or-set_other xs (m + 1) k y None (λ e. absurd (omega arith)) ∙ later k (omega arith)

  pub gone_kept : (k : ℕ) → k ≤ m + 1 → get_or (set xs (m + 1) y) k None ≡ None
  gone_kept k low = elim (cases_eq k (m + 1)) [
    | inl e ↦ ap (λ i. get_or (set xs (m + 1) y) i None) e ∙ (get_or-set_same xs (m + 1) y None within ∙ none)
    | inr apart ↦ get_or-set_other xs (m + 1) k y None apart ∙ gone k (omega arith)
  ]

pub all_gone : {A : Type 0} (xs : List (Option A)) → ((k : ℕ) → k < length xs → get_or xs k None ≡ None) → weigh (in_place (λ _. 1)) xs ≡ 0
all_gone [] none = refl
all_gone (None ∷ xs) none = let rest = all_gone xs (λ k low. none (suc k) (omega arith)) in omega arith
all_gone (Some x ∷ xs) none = let no = none 0 (omega arith) in cc

pub first_none : {A : Type 0} (xs : List (Option A)) → ((x : A) → get_or xs 0 None ≡ Some x → ⊥) → get_or xs 0 None ≡ None
first_none [] never = refl
first_none (None ∷ xs) never = refl
first_none (Some x ∷ xs) never = absurd (never x refl)
