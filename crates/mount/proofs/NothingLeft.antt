-- A hand that weighs nothing has nothing.
use Rattle.std.proofs.Common.{◌≡◌, List, [], ◌∷◌, refl, arith}
use Rattle.geometry.specs.Weights.{weigh}

pub has_nothing : {A : Type 0} (xs : List A) → weigh (λ (x : A). 1) xs ≡ 0 → xs ≡ []
has_nothing [] none = refl
has_nothing (x ∷ xs) none = absurd (omega arith)
