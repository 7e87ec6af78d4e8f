-- What a list weighs that was cut, changed or laid end to end.
use Rattle.std.proofs.Common.{◌≡◌, ℕ, zero, suc, ◌+◌, List, [], ◌∷◌, set, take, drop, flat_map, refl, sym, ap, arith}
use mathlib.Core.Option.{some, some-ne-none, some-injective}
use lib.ListN.{get_elem?}
use Rattle.geometry.specs.Weights.{weigh}
use Rattle.geometry.proofs.Weighing.{weigh-append}

module _ {A : Type 0} where
  -- a list that is cut in two
  pub weigh-cut : (h : A → ℕ) (n : ℕ) (xs : List A) → weigh h (take n xs) + weigh h (drop n xs) ≡ weigh h xs
  weigh-cut h zero xs = omega arith
  weigh-cut h (suc n) [] = refl
  weigh-cut h (suc n) (x ∷ xs) = omega (arith, weigh-cut h n xs)

  -- one item of the list takes the place of another
  pub weigh-set_found : (h : A → ℕ) (xs : List A) (i : ℕ) (x y : A) → get_elem? xs i ≡ some x → weigh h (set xs i y) + h x ≡ weigh h xs + h y
  weigh-set_found h [] i x y e = absurd (some-ne-none x (sym e))
  weigh-set_found h (z ∷ zs) zero x y e = let s : h z ≡ h x = ap h (some-injective z x e) in omega arith
  weigh-set_found h (z ∷ zs) (suc i) x y e = omega (arith, weigh-set_found h zs i x y e)

  pub weigh-flat : (h : A → ℕ) (xss : List (List A)) → weigh h (flat_map (λ x. x) xss) ≡ weigh (λ x. weigh h x) xss
  weigh-flat h [] = refl
  weigh-flat h (xs ∷ xss) = omega (arith, weigh-append h xs (flat_map (λ x. x) xss), weigh-flat h xss)
