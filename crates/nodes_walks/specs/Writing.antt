-- A walk writes the blocks of marked nodes, one after another (Linux filesystems/f2fs: a checkpoint writes the dirty node blocks).
use Rattle.std.specs.Prelude.{◌≡◌, ℕ, ◌+◌, ◌≤◌, true, false, List}
use Rattle.geometry.specs.declared.class.Class.{Class}
use Rattle.geometry.specs.Class.{class_code}
use Rattle.geometry.specs.declared.kind.Kind.{Kind}
use Rattle.rights_books.specs.declared.claim.TakenNumber.{TakenNumber}
use Rattle.nodes.specs.Change.{TreeNode, Weighing}

-- a marked node, by its token and what its block is to spell
abbrev pub marked_node : TakenNumber → Class → Kind → ℕ → List ℕ → List ℕ → TreeNode
marked_node token class kind length addresses children = record {
  token = token;
  class = class_code class;
  kind = kind;
  length = length;
  addresses = addresses;
  children = children;
  dirty = true;
}

-- a node whose block was written: its token tells where, and it is no longer marked
abbrev pub rewritten : TakenNumber → TreeNode → TreeNode
rewritten token n = record n { token = token; dirty = false }

-- one of the nodes of a tree: whatever a node weighs, the tree weighs no less
abbrev pub IsAmong : {L : Type 0} → (Weighing L → ℕ) → TreeNode → Type 0
IsAmong {L} weight n = (w : Weighing L) → w.node n ≤ weight w

-- one marked node of a tree is written, and has its number still; no other node and no ticket is another
pub record WritesOne {L : Type 0} (old new : Weighing L → ℕ) (n : TreeNode) (token : TakenNumber) : Type 0 where
  pub marked : n.dirty ≡ true
  pub among : IsAmong old n
  pub number : token.number ≡ n.token.number
  pub trades : (w : Weighing L) → new w + w.node n ≡ old w + w.node (rewritten token n)
