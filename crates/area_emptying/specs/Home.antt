-- What the blocks hold that are at home in a row of segments.
use Rattle.std.specs.Prelude.{ℕ, ◌<◌, List, length, slice_index_or}
use Rattle.geometry.specs.File.{Block}
use Rattle.sit.specs.Registered.{Registered}
use Rattle.sit.specs.ShownBlocks.{ShowsBlocks}

-- each block that is at home has the bytes at its address
abbrev pub AreAtHome : (ℕ → Block) → List Registered → Type 0
AreAtHome bytes segments = (k : ℕ) (other : Registered) → k < length segments → ShowsBlocks (slice_index_or segments k other).segment bytes
