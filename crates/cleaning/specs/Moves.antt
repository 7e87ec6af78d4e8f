-- What a move of one valid block does to the file that names it (Rosenblum and Ousterhout 1991: cleaning moves a block and
-- changes who names it).
use Rattle.std.specs.Prelude.{◌≡◌, ◌≢◌, ◌<◌, ◌+◌, ◌⊎◌, ℕ, ◌∷◌, Some}
use Rattle.geometry.specs.declared.owner.Mark.{Mark}
use Rattle.geometry.specs.declared.owner.Owner.{Owner}
use Rattle.geometry.specs.declared.owner.Owner.TheVariants.{Data, Node}
use Rattle.rights_books.specs.declared.claim.TakenNumber.{TakenNumber}
use Rattle.rights_books.specs.Accounts.{HandView}
use Rattle.rights_books.specs.Lists.{times, without}
use Rattle.rights_books.specs.Sameness.{same_entry}
use Rattle.rights_books.specs.Rules.{moved_to}
use Rattle.tickets.specs.Placed.{Placed}
use Rattle.nodes.specs.Tree.{SetsAt}
use Rattle.nodes.specs.Change.{TreeNode, Weighing, of_tickets, each_naming}
use Rattle.nodes_walks.specs.Writing.{IsAmong}
use Rattle.nodes_walks.specs.Moving.{MovesOne, each_numbered}
use Rattle.nodes.specs.declared.file.FileState.{FileState}
use Rattle.nodes.specs.File.{ticket_at, weight_of}
use Rattle.nodes_law.specs.Law.{ragged}

-- a block that had this mark stands at another address, with the bytes and the owner that it had
pub record IsElsewhere (mark : Mark) (before after : Placed) : Type 0 where
  pub was : before.mark ≡ mark
  pub other : after.mark.address ≢ mark.address
  pub owner : after.mark.owner ≡ mark.owner
  pub bytes : after.content ≡ before.content

-- the same of a node's block, as its token tells; the node's number and inode stay
pub record IsNodeElsewhere (address : ℕ) (old new : TakenNumber) : Type 0 where
  pub was : old.address ≡ address
  pub other : new.address ≢ address
  pub some : 0 < new.address
  pub token : new ≡ moved_to new.address old.bytes old

-- a token that is in hand has it changed so, and what else is in hand stays
pub record MovesToken (address : ℕ) (old new : TakenNumber) (before after : HandView) : Type 0 where
  pub elsewhere : IsNodeElsewhere address old new
  pub hand : after ≡ record before { tokens = new ∷ without same_entry old before.tokens }

-- the token of a node whose block can be moved: it is in hand, and its block, where it has one, is whole
pub record IsMovable (bytes : ℕ) (token : TakenNumber) (hand : HandView) : Type 0 where
  pub number : 0 < token.number
  pub held : 0 < times same_entry token hand.tokens
  pub whole : ragged bytes token ≡ 0

module _ {B L : Type 0} where
  -- at one index of the file, which has this ticket once less and the other once more
  pub record MovesAt (mark : Mark) (old new : FileState B L) (index : ℕ) (before after : Placed) : Type 0 where
    pub there : ticket_at old index ≡ Some before
    pub sets : SetsAt (ticket_at old) (ticket_at new) index (Some after)
    pub elsewhere : IsElsewhere mark before after
    pub tickets : (h : Mark → ℕ) → weight_of new (of_tickets (λ t. h t.mark)) + h before.mark ≡ weight_of old (of_tickets (λ t. h t.mark)) + h after.mark

  -- one node of the file; its mark, what its block is to spell and all other nodes and blocks stay
  pub record MovesNode (nid address : ℕ) (old new : FileState B L) (n : TreeNode) (token : TakenNumber) : Type 0 where
    pub number : n.token.number ≡ nid
    pub one : MovesOne (weight_of old) (weight_of new) n token
    pub elsewhere : IsNodeElsewhere address n.token token

  -- a node of this number stands elsewhere
  abbrev pub IsNotAt : ℕ → ℕ → FileState B L → Type 0
  IsNotAt nid address f = (n : TreeNode) × IsAmong (weight_of f) n × (n.token.number ≡ nid) × (n.token.address ≢ address)

  -- its nodes and its tickets are the same, each as often
  abbrev pub KeepsWeights : FileState B L → FileState B L → Type 0
  KeepsWeights old new = (w : Weighing Placed) → weight_of new w ≡ weight_of old w

  -- the block at an address was moved, by who names it there
  abbrev pub HasMoved : ℕ → Owner → FileState B L → FileState B L → Type 0
  HasMoved address (Data nid slot) old new =
      (index : ℕ) × (before : Placed) × (after : Placed) × MovesAt (record { address = address; owner = Data nid slot }) old new index before after
  HasMoved address (Node nid) old new = (n : TreeNode) × (token : TakenNumber) × MovesNode nid address old new n token

  -- nobody of the file names it so
  abbrev pub IsGone : ℕ → Owner → FileState B L → Type 0
  IsGone address (Data nid slot) f = weight_of f (each_naming nid slot address) ≡ 0
  IsGone address (Node nid) f = (weight_of f (each_numbered nid) ≡ 0) ⊎ IsNotAt nid address f
