-- Why a last checkpoint is not written.
use Rattle.std.specs.Prelude.{◌≡◌, ◌⊎◌, ℕ}
use Rattle.geometry.specs.declared.error.Error.{Error}
use Rattle.geometry.specs.declared.error.Error.TheVariants.{PassesOut, Wounded, Exhausted, NoMemory, NoSpace, Device}

-- why a last checkpoint is not written
abbrev pub IsNotWritten : Error → Type 0
IsNotWritten error = ((n : ℕ) × (error ≡ PassesOut n)) ⊎ ((error ≡ Wounded) ⊎ ((error ≡ Exhausted) ⊎ ((error ≡ NoMemory) ⊎ ((error ≡ NoSpace) ⊎ (error ≡ Device)))))
