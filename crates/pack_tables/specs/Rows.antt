-- Rows that are spelled one after the other.
use Rattle.std.specs.Prelude.{◌≡◌, ℕ, List, length, All}
use Rattle.std.specs.List.{flat_map}

pub record AreRows {X : Type 0} (bytes_of : X → List ℕ) (IsRow : X → Type 0) (count : ℕ) (bytes : List ℕ) (rows : List X) : Type 0 where
  pub as_many : length rows ≡ count
  pub each : All IsRow rows
  pub spelled : bytes ≡ flat_map bytes_of rows

-- no rows are spelled so
abbrev pub AreNoRows : {X : Type 0} → (X → List ℕ) → (X → Type 0) → ℕ → List ℕ → Type 0
AreNoRows {X = X} bytes_of IsRow count bytes = (rows : List X) → ¬ AreRows bytes_of IsRow count bytes rows
