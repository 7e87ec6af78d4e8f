-- Main blocks that hold what the tokens show.
use Rattle.std.specs.Prelude.{◌≡◌, ◌<◌, ◌==◌, ℕ, List, [], ◌∷◌, if◌then◌else◌}
use Rattle.geometry.specs.File.{Block}
use Rattle.rights_books.specs.declared.claim.TakenNumber.{TakenNumber}
use Rattle.rights_books.specs.Lists.{times}
use Rattle.rights_books.specs.Sameness.{same_entry}
use Rattle.nat.specs.Table.{all_taken}
use Rattle.checkpoint_image.specs.Cells.{Cells}

-- the block of each taken number has the bytes that its entry shows
abbrev pub HoldNodes : (ℕ → Block) → Cells → Type 0
HoldNodes blocks cells =
    (e : TakenNumber) → 0 < times same_entry e (all_taken cells.shards) → 0 < e.address → blocks e.address ≡ e.bytes

-- the bytes of the node at an address, none where there is no node
abbrev pub node_bytes_at : List TakenNumber → ℕ → Block
node_bytes_at [] address = []
node_bytes_at (e ∷ es) address = if e.address == address then e.bytes else node_bytes_at es address

-- main blocks that hold the nodes
abbrev pub blocks_of : Cells → ℕ → Block
blocks_of cells = node_bytes_at (all_taken cells.shards)
