-- What the writing of a node's block asks, and what it leaves in hand (Linux filesystems/f2fs, node pages at a checkpoint).
use Rattle.std.specs.Prelude.{◌≡◌, ◌<◌, ◌≤◌, ◌⊎◌, ℕ, ◌+◌}
use Rattle.atomic_table.specs.Seated.{TableId}
use Rattle.geometry.specs.Weights.{weigh, SameItems}
use Rattle.geometry.specs.declared.shape.Shape.{Shape}
use Rattle.geometry.specs.declared.kind.Kind.TheVariants.{File}
use Rattle.geometry.specs.Shape.{block_bytes}
use Rattle.image.specs.Node.{HasEntries}
use Rattle.rights_books.specs.declared.claim.TakenNumber.{TakenNumber}
use Rattle.rights_books.specs.Accounts.{HandView}
use Rattle.rights_books.specs.Lists.{times}
use Rattle.rights_books.specs.Sameness.{same_entry}
use Rattle.nodes.specs.Change.{TreeNode}
use Rattle.nodes_walks.specs.Writing.{rewritten}
use Rattle.nodes_law.specs.Nodes.{node_in}
use Rattle.nodes_law.specs.Law.{ragged, IsSpelled}

-- a node that has a spelling where its numbers fit their fields
pub record IsWritable (shape : Shape) (inode : ℕ) (n : TreeNode) : Type 0 where
  pub inode_is : 1 ≤ inode
  pub nid : 1 ≤ n.token.number
  pub class : n.class < 3
  pub entries : HasEntries shape (node_in inode n) n.class
  pub plain : (n.class ≡ 0) ⊎ ((n.length ≡ 0) × (n.kind ≡ File))

-- its token is in hand, and its block before was whole
pub record IsInHand (shape : Shape) (book : TableId) (hand : HandView) (token : TakenNumber) : Type 0 where
  pub book_is : hand.book ≡ book
  pub there : 0 < times same_entry token hand.tokens
  pub whole : ragged (block_bytes shape) token ≡ 0

-- the tickets in hand are as they were, and of the tokens one is another
pub record HasSwapped (before after : HandView) (old new : TakenNumber) : Type 0 where
  pub book : after.book ≡ before.book
  pub tickets : SameItems after.tickets before.tickets
  pub tokens : (h : TakenNumber → ℕ) → weigh h after.tokens + h old ≡ weigh h before.tokens + h new

-- the node has a block that spells it, and is of the file that it was of
pub record IsWrittenTo (shape : Shape) (inode : ℕ) (n : TreeNode) (token : TakenNumber) : Type 0 where
  pub number : token.number ≡ n.token.number
  pub inode_is : token.inode ≡ n.token.inode
  pub spelled : IsSpelled shape inode (rewritten token n)
