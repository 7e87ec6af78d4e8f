-- Which refusals a step may answer: sets that contracts name.
use Rattle.std.specs.Prelude.{◌≡◌, ◌⊎◌}
use Rattle.geometry.specs.declared.error.Error.{Error}
use Rattle.geometry.specs.declared.error.Error.TheVariants.{Device, Exhausted, NoMemory, NoNode, NoSpace, TooFar, Wounded}

-- why a block is not appended to a log
abbrev pub IsOfAppend : Error → Type 0
IsOfAppend error = (error ≡ Device) ⊎ (error ≡ NoSpace)

-- why a block is not read
abbrev pub IsOfRead : Error → Type 0
IsOfRead error = (error ≡ NoMemory) ⊎ (error ≡ Device)

-- why what is marked is not moved, where that takes memory
abbrev pub IsOfMove : Error → Type 0
IsOfMove error = (error ≡ NoMemory) ⊎ ((error ≡ Device) ⊎ (error ≡ NoSpace))

-- why a block does not get its place in a file
abbrev pub IsOfPut : Error → Type 0
IsOfPut error = (error ≡ NoMemory) ⊎ ((error ≡ NoNode) ⊎ ((error ≡ NoSpace) ⊎ (error ≡ Device)))

-- why no checkpoint is written
abbrev pub IsOfSync : Error → Type 0
IsOfSync error = (error ≡ Wounded) ⊎ ((error ≡ Exhausted) ⊎ ((error ≡ NoMemory) ⊎ ((error ≡ NoSpace) ⊎ (error ≡ Device))))

-- why a block is not written to a file of a volume
abbrev pub IsOfWrite : Error → Type 0
IsOfWrite error = (error ≡ TooFar) ⊎ ((error ≡ Wounded) ⊎ ((error ≡ NoMemory) ⊎ ((error ≡ NoNode) ⊎ ((error ≡ NoSpace) ⊎ (error ≡ Device)))))
