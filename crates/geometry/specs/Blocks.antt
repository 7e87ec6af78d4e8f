-- What an append makes of the blocks by their addresses, or of any map from numbers.
use Rattle.std.specs.Prelude.{ℕ, ◌==◌, if◌then◌else◌}

-- f with another value at one place
abbrev pub changed : {X : Type 0} → (ℕ → X) → ℕ → X → ℕ → X
changed f at value k = if k == at then value else f k
