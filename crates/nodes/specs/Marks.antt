-- Which nodes of a file a call changes: those are marked, and no other is.
use Rattle.std.specs.Prelude.{◌≡◌, ℕ, ◌+◌, nat_lt, Bool, true, false, if◌then◌else◌}
use Rattle.tickets.specs.Placed.{Placed}
use Rattle.nodes.specs.Change.{TreeNode, Weighing, Trades}
use Rattle.nodes.specs.declared.file.FileState.{FileState}
use Rattle.nodes.specs.File.{inode_of, below_weight}

-- an inode whose file has a block at an index: it is changed, and marked, where that makes the file longer
abbrev pub lengthened : ℕ → TreeNode → TreeNode
lengthened index inode = if nat_lt index inode.length then inode else record inode { length = index + 1; dirty = true }

-- an inode whose file is cut
abbrev pub shortened : ℕ → TreeNode → TreeNode
shortened length inode = if nat_lt length inode.length then record inode { length = length; dirty = true } else inode

abbrev pub unchanged : TreeNode → TreeNode
unchanged inode = inode

-- Tickets and nodes went and came. One node's entries were changed, and it is marked: the inode, if `own`, or one node below
-- it, and then the inode is but for its length what it was. What all others spell is as it was, and no other mark.
pub record MarksNode {B L : Type 0} (resized : TreeNode → TreeNode) (old new : FileState B L) (out into : Weighing Placed → ℕ) : Type 0 where
  pub own : Bool
  pub trades : Trades own (below_weight old) (below_weight new) out into
  pub kept : own ≡ false → inode_of new ≡ resized (inode_of old)
  pub marked : own ≡ true → (inode_of new).dirty ≡ true
  pub token : new.token ≡ old.token
