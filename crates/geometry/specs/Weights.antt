-- What a list weighs when each of its items has a weight. Two lists that weigh the same for every weighing have the same items, each as often.
use Rattle.std.specs.Prelude.{◌≡◌, ℕ, ◌+◌, List, [], ◌∷◌}

abbrev pub weigh : {A : Type 0} → (A → ℕ) → List A → ℕ
weigh weight [] = 0
weigh weight (x ∷ xs) = weight x + weigh weight xs

-- the lists have the same items, each as often
abbrev pub SameItems : {A : Type 0} → List A → List A → Type 0
SameItems {A} xs ys = (weight : A → ℕ) → weigh weight xs ≡ weigh weight ys
