-- What is shown of what is lent, where all of a list are lent.
use Rattle.std.proofs.Common.{◌≡◌, ◌∙◌, ◌≤◌, ℕ, List, [], ◌∷◌, ap, map, reverse, length, take, refl}
use Rattle.std.proofs.lemmas.List.{take_all}

module _ {X Y Z : Type 0} (f : Y → Z) (g : X → Y) where
  map_twice : (xs : List X) → map (λ x. f (g x)) xs ≡ map f (map g xs)
  map_twice [] = refl
  map_twice (x ∷ xs) = ap (λ rest. f (g x) ∷ rest) (map_twice xs)

  -- those that are lent are all
  pub all_lent : (lent shown : List X) (all : List Y) (count : ℕ) → length all ≤ count → map g lent ≡ take count all → shown ≡ lent
      → reverse (map (λ x. f (g x)) shown) ≡ reverse (map f all)
  all_lent lent shown all count whole are same =
      ap reverse (ap (map (λ x. f (g x))) same ∙ map_twice lent ∙ ap (map f) (are ∙ take_all count all whole))
