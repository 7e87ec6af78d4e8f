-- What a check answers: the first rule of a range that is broken, or none.
use Rattle.std.specs.Prelude.{◌<◌, ◌≤◌, ℕ, Option, MatchOption}
use Rattle.geometry.specs.declared.geometry.Geometry.{Geometry}
use Rattle.geometry.specs.declared.error.Error.{Error}
use Rattle.geometry.specs.declared.error.Error.TheVariants.{NoMemory, BadImage}
use Rattle.image.specs.Image.{Image}
use Rattle.image.specs.Rules.{Rule, IsLeastFault}

-- the rules from a first one on, before another
abbrev pub Kept : Geometry → Image → ℕ → ℕ → Type 0
Kept geometry image first past = (k : ℕ) → first ≤ k → k < past → Rule geometry image k

-- rule k is the first of the range that is broken
pub record IsFirstBroken (geometry : Geometry) (image : Image) (first past k : ℕ) : Type 0 where
  pub low : first ≤ k
  pub high : k < past
  pub broken : ¬ Rule geometry image k
  pub kept : Kept geometry image first k

-- no fault in the range, or the first one
abbrev pub IsFaultIn : Geometry → Image → ℕ → ℕ → Option ℕ → Type 0
IsFaultIn geometry image first past found = MatchOption found (Kept geometry image first past) (IsFirstBroken geometry image first past)

-- the refusals of a check: want of memory, and the number of the least fault
abbrev pub IsRefusal : Geometry → Image → Error → Type 0
IsRefusal geometry image NoMemory = Unit {0}
IsRefusal geometry image (BadImage k) = IsLeastFault geometry image k
IsRefusal geometry image other = ⊥
