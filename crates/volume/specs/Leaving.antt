-- Why a volume is not left.
use Rattle.std.specs.Prelude.{◌≡◌, ℕ, ◌-◌, ◌<◌, ◌⊎◌}
use Rattle.geometry.specs.declared.error.Error.{Error}
use Rattle.geometry.specs.declared.error.Error.TheVariants.{PassesOut, SeatsOut}

-- some passes are missing, or some of the 64 seats are
abbrev pub IsLeftOut : ℕ → Error → Type 0
IsLeftOut seats error = ((n : ℕ) × (error ≡ PassesOut n)) ⊎ ((seats < 64) × (error ≡ SeatsOut (64 - seats)))
