-- The law of a file's state between calls: the block of each node that is not marked spells it (Linux filesystems/f2fs: a
-- node page that is not dirty is as it was written), each node has a token of its file's, and each ticket an address.
use Rattle.std.specs.Prelude.{◌≡◌, ◌<◌, ℕ, ◌==◌, ◌&&◌, ◌||◌, nat_lt, false, if◌then◌else◌, length}
use Rattle.geometry.specs.declared.shape.Shape.{Shape}
use Rattle.geometry.specs.Shape.{block_bytes}
use Rattle.image.specs.Node.{Spells}
use Rattle.image_law.specs.Items.{Among}
use Rattle.rights_books.specs.declared.claim.TakenNumber.{TakenNumber}
use Rattle.tickets.specs.Placed.{Placed}
use Rattle.nodes.specs.Change.{TreeNode, of_tickets, of_tokens}
use Rattle.nodes.specs.declared.file.FileState.{FileState}
use Rattle.nodes.specs.declared.spare_path.SparePath.{SparePath}
use Rattle.nodes.specs.Lacking.{spare_tokens}
use Rattle.nodes.specs.File.{below_weight, weight_of}
use Rattle.nodes_law.specs.Nodes.{nodes_of, node_in}

-- 1 for a token that is not of a node below this inode, where the numbers up to `files` are those of inodes
abbrev pub strange : ℕ → ℕ → TakenNumber → ℕ
strange files inode e = if (e.inode == inode) && nat_lt files e.number then 0 else 1

-- 1 for a token of a node that has no block yet
abbrev pub unwritten : TakenNumber → ℕ
unwritten e = if e.address == 0 then 1 else 0

-- 1 for a token of a node whose block has not so many bytes
abbrev pub ragged : ℕ → TakenNumber → ℕ
ragged size e = if (e.address == 0) || (length e.bytes == size) then 0 else 1

-- 1 for a ticket without an address
abbrev pub unplaced : Placed → ℕ
unplaced t = if t.mark.address == 0 then 1 else 0

-- a node has a block, which spells it
abbrev pub IsSpelled : Shape → ℕ → TreeNode → Type 0
IsSpelled shape inode n = (0 < n.token.address) × Spells shape n.token.bytes (node_in inode n)

module _ {B L : Type 0} where
  -- each node that is not marked has a block, which spells it
  abbrev pub SpellsUnmarked : FileState B L → Type 0
  SpellsUnmarked f = (n : TreeNode) → Among n (nodes_of f) → n.dirty ≡ false → IsSpelled f.shape f.token.number n

  -- each token is of this file, those below the inode are no inodes', and what has a block has a whole one
  pub record HasOwnTokens (files : ℕ) (f : FileState B L) : Type 0 where
    pub inode : f.token.inode ≡ f.token.number
    pub below : below_weight f (of_tokens (strange files f.token.number)) ≡ 0
    pub whole : weight_of f (of_tokens (ragged (block_bytes f.shape))) ≡ 0

  -- spare nodes that may come into a file of this shape and inode
  pub record HaveOwnTokens (files : ℕ) (shape : Shape) (inode : ℕ) (spares : SparePath B L) : Type 0 where
    pub below : spare_tokens (strange files inode) spares ≡ 0
    pub whole : spare_tokens (ragged (block_bytes shape)) spares ≡ 0

  -- no ticket has the address 0
  abbrev pub HasAddresses : FileState B L → Type 0
  HasAddresses f = weight_of f (of_tickets unplaced) ≡ 0

  pub record FileStateLaw (files : ℕ) (f : FileState B L) : Type 0 where
    pub spelled : SpellsUnmarked f
    pub tokens : HasOwnTokens files f
    pub placed : HasAddresses f

  -- each node has a block
  abbrev pub IsWritten : FileState B L → Type 0
  IsWritten f = weight_of f (of_tokens unwritten) ≡ 0
