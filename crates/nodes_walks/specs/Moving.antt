-- A node's block is moved, and all else stays (Rosenblum and Ousterhout 1991: cleaning moves a block and changes who names it).
use Rattle.std.specs.Prelude.{◌≡◌, ℕ, ◌+◌, ◌==◌, if◌then◌else◌}
use Rattle.rights_books.specs.declared.claim.TakenNumber.{TakenNumber}
use Rattle.nodes.specs.Change.{TreeNode, Weighing, of_tokens}
use Rattle.nodes_walks.specs.Writing.{IsAmong}

-- the node with another token, which tells where its block stands; what the block is to spell and the mark stay
abbrev pub moved_node : TakenNumber → TreeNode → TreeNode
moved_node token n = record n { token = token }

-- one node of a tree has another token of its number; no other node and no ticket is another
pub record MovesOne {L : Type 0} (old new : Weighing L → ℕ) (n : TreeNode) (token : TakenNumber) : Type 0 where
  pub among : IsAmong old n
  pub number : token.number ≡ n.token.number
  pub trades : (w : Weighing L) → new w + w.node n ≡ old w + w.node (moved_node token n)

-- 1 for each node of this number
abbrev pub each_numbered : {L : Type 0} → ℕ → Weighing L
each_numbered number = of_tokens (λ e. if e.number == number then 1 else 0)
