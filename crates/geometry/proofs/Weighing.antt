-- A list's weight is the sum over its items: so an item that goes takes its weight away, one that comes brings its own,
-- and each weighs no more than the whole.
use Rattle.std.proofs.Common.{◌≡◌, ℕ, zero, suc, ◌+◌, ◌<◌, ◌≤◌, List, [], ◌∷◌, ◌++◌, length, get_or, set, take, replicate, ap, ◌∙◌, arith}
use Rattle.geometry.specs.Weights.{weigh}

module _ {A : Type 0} where
  pub weigh-append : (weight : A → ℕ) (xs ys : List A) → weigh weight (xs ++ ys) ≡ weigh weight xs + weigh weight ys
  weigh-append weight [] ys = omega arith
  weigh-append weight (x ∷ xs) ys = let rest = weigh-append weight xs ys in omega arith

  -- the item that goes takes its weight away, the one that comes brings its own
  pub weigh-set : (weight : A → ℕ) (xs : List A) (i : ℕ) (y d : A) → i < length xs → weigh weight (set xs i y) + weight (get_or xs i d) ≡ weigh weight xs + weight y
  weigh-set weight [] i y d within = absurd (omega arith)
  weigh-set weight (x ∷ xs) zero y d within = omega arith
  weigh-set weight (x ∷ xs) (suc i) y d within = let rest = weigh-set weight xs i y d (omega arith) in omega arith

  pub weigh-replicate : (weight : A → ℕ) (n : ℕ) (x : A) → weight x ≡ 0 → weigh weight (replicate n x) ≡ 0
  weigh-replicate weight zero x none = omega arith
  weigh-replicate weight (suc n) x none = let rest = weigh-replicate weight n x none in omega arith

  -- what each item weighs by two weights, the list does
  pub weigh-same : (one other : A → ℕ) (xs : List A) → ((x : A) → one x ≡ other x) → weigh one xs ≡ weigh other xs
  weigh-same one other [] same = omega arith
  weigh-same one other (x ∷ xs) same = let rest = weigh-same one other xs same in let here = same x in omega arith

  -- an item weighs no more than the list that has it
  pub weigh-at : (weight : A → ℕ) (xs : List A) (i : ℕ) (d : A) → i < length xs → weight (get_or xs i d) ≤ weigh weight xs
  weigh-at weight [] i d within = absurd (omega arith)
  weigh-at weight (x ∷ xs) zero d within = omega arith
  weigh-at weight (x ∷ xs) (suc i) d within = let rest = weigh-at weight xs i d (omega arith) in omega arith

  -- where a list weighs something, one of its items does
  pub weigh-some : (weight : A → ℕ) (xs : List A) (d : A) → 0 < weigh weight xs → (i : ℕ) × (i < length xs) × (0 < weight (get_or xs i d))
  weigh-some weight [] d some = absurd (omega arith)
  weigh-some weight (x ∷ xs) d some = go (weight x) (λ more. (0, omega arith, more)) (λ less. let rest = weigh-some weight xs d (omega arith) in (suc rest.0, omega arith, rest.2))
    where
      go : (w : ℕ) {C : Type 0} → (0 < w → C) → (w ≡ 0 → C) → C
      go zero more less = less (omega arith)
      go (suc w) more less = more (omega arith)

  take_next : (weight : A → ℕ) (xs : List A) (i : ℕ) (d : A) → i < length xs → weigh weight (take (suc i) xs) ≡ weigh weight (take i xs) + weight (get_or xs i d)
  take_next weight [] i d within = absurd (omega arith)
  take_next weight (x ∷ xs) zero d within = omega arith
  take_next weight (x ∷ xs) (suc i) d within = let rest = take_next weight xs i d (omega arith) in omega arith

  -- a loop comes to the next item
  pub weigh-take : (weight : A → ℕ) (xs : List A) (i : ℕ) (d : A) → i < length xs → weigh weight (take (i + 1) xs) ≡ weigh weight (take i xs) + weight (get_or xs i d)
  weigh-take weight xs i d within = let next : i + 1 ≡ suc i = omega arith in ap (λ k. weigh weight (take k xs)) next ∙ take_next weight xs i d within
