-- Lists whose order says nothing.
use Rattle.std.specs.Prelude.{ℕ, zero, suc, ◌+◌, Bool, List, [], ◌∷◌, if◌then◌else◌}
use Rattle.geometry.specs.Weights.{weigh}

-- how often x stands in the list
abbrev pub times : {A : Type 0} → (A → A → Bool) → A → List A → ℕ
times same x xs = weigh (λ y. if same x y then 1 else 0) xs

-- the list less its first x
abbrev pub without : {A : Type 0} → (A → A → Bool) → A → List A → List A
without same x [] = []
without same x (y ∷ ys) = if same x y then ys else y ∷ without same x ys

-- h of each number below n, added up
abbrev pub sum_below : ℕ → (ℕ → ℕ) → ℕ
sum_below zero h = 0
sum_below (suc n) h = sum_below n h + h n
