-- What a service promises of the passes with which it ends, and why it fails.
use Rattle.std.proofs.Common.{◌≡◌, List}
use Rattle.file_cells.specs.Pass.{Pass}
use Rattle.geometry.specs.declared.error.Error.{Error}
use Rattle.geometry.specs.declared.error.Error.TheVariants.{NoMemory}
use Rattle.geometry.specs.declared.geometry.Geometry.{Geometry}

-- nothing is promised of the passes
abbrev pub anything : {O : Type 0} → Geometry → List Pass → O → List Pass → Type 0
anything geometry before output after = Unit {0}

-- memory was wanting
abbrev pub for_memory : Geometry → List Pass → Error → Type 0
for_memory geometry before error = error ≡ NoMemory
