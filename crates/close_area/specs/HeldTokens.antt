-- Main blocks that hold what tokens show (Linux filesystems/f2fs, node address table).
use Rattle.std.specs.Prelude.{◌≡◌, ◌<◌, ℕ, List}
use Rattle.geometry.specs.File.{Block}
use Rattle.rights_books.specs.declared.claim.TakenNumber.{TakenNumber}
use Rattle.rights_books.specs.Lists.{times}
use Rattle.rights_books.specs.Sameness.{same_entry}

-- the block of each node that has one has the bytes that the node's token shows
abbrev pub HoldTokens : (ℕ → Block) → List TakenNumber → Type 0
HoldTokens bytes tokens = (e : TakenNumber) → 0 < times same_entry e tokens → 0 < e.address → bytes e.address ≡ e.bytes
