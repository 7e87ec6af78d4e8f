-- What a move of one block does to what is lodged in its file's account (Rosenblum and Ousterhout 1991: cleaning moves a block
-- and changes who names it).
use Rattle.std.specs.Prelude.{◌≡◌, ◌≢◌, ◌+◌, ℕ}
use Rattle.geometry.specs.Weights.{weigh}
use Rattle.geometry.specs.declared.owner.Mark.{Mark}
use Rattle.geometry.specs.declared.owner.Owner.{Owner}
use Rattle.geometry.specs.declared.owner.Owner.TheVariants.{Data, Node}
use Rattle.rights_books.specs.declared.claim.TakenNumber.{TakenNumber}
use Rattle.rights_books.specs.Accounts.{FileView}
use Rattle.cleaning.specs.Moves.{IsNodeElsewhere}

-- a ticket went, and one of another address and the same owner came; all else is lodged as often as before
pub record MovesLodged (before after : Mark) (old new : FileView) : Type 0 where
  pub other : after.address ≢ before.address
  pub owner : after.owner ≡ before.owner
  pub tickets : (h : Mark → ℕ) → weigh h new.tickets + h before ≡ weigh h old.tickets + h after

-- the same of the entry of a node
pub record MovesLodgedNode (nid address : ℕ) (before after : TakenNumber) (old new : FileView) : Type 0 where
  pub number : before.number ≡ nid
  pub elsewhere : IsNodeElsewhere address before after
  pub tokens : (h : TakenNumber → ℕ) → weigh h new.tokens + h before ≡ weigh h old.tokens + h after

-- the block at an address was moved, by who names it there
abbrev pub HasMovedLodged : ℕ → Owner → FileView → FileView → Type 0
HasMovedLodged address (Data nid slot) old new = (after : Mark) × MovesLodged (record { address = address; owner = Data nid slot }) after old new
HasMovedLodged address (Node nid) old new = (before : TakenNumber) × (after : TakenNumber) × MovesLodgedNode nid address before after old new

-- all is lodged as often as before
pub record KeepsLodged (old new : FileView) : Type 0 where
  pub tickets : (h : Mark → ℕ) → weigh h new.tickets ≡ weigh h old.tickets
  pub tokens : (h : TakenNumber → ℕ) → weigh h new.tokens ≡ weigh h old.tokens
