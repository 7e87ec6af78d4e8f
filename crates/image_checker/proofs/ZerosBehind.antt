-- From a place on all numbers of a list are 0.
use Rattle.std.proofs.Common.{◌≡◌, ℕ, ◌≤◌, List, length}
use Rattle.std.specs.Prelude.{slice_index}

pub record HasZerosFrom (numbers : List ℕ) (used : ℕ) : Type 0 where
  pub within : used ≤ length numbers
  pub past : (k : ℕ) → used ≤ k → slice_index numbers k ≡ 0
