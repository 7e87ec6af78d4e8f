-- The number of each refusal.
use Rattle.std.specs.Prelude.{ℕ}
use Rattle.geometry.specs.declared.error.Error.{Error}
use Rattle.geometry.specs.declared.error.Error.TheVariants.{NoMemory, Device, NoSpace, NoFile, NoNode, TooFar, BadLength, Wounded, BadGeometry, NoPack, BadImage, PassesOut, SeatsOut, Exhausted}

abbrev pub number_of : Error → ℕ
number_of NoMemory = 1
number_of Device = 2
number_of NoSpace = 3
number_of NoFile = 4
number_of NoNode = 5
number_of TooFar = 6
number_of BadLength = 7
number_of Wounded = 8
number_of BadGeometry = 9
number_of NoPack = 10
number_of (BadImage fault) = 11
number_of (PassesOut count) = 12
number_of (SeatsOut count) = 13
number_of Exhausted = 14
