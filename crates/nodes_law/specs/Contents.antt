-- A file as the volume keeps it, and what is in hand for it.
use Rattle.std.specs.Prelude.{◌≡◌, ◌≤◌, ℕ, length, Option, Some}
use Rattle.std.specs.FinMap.{len}
use Rattle.geometry.specs.Path.{largest_length}
use Rattle.geometry.specs.Shape.{block_bytes}
use Rattle.rights_books.specs.Accounts.{HandView}
use Rattle.tickets.specs.Placed.{Placed}
use Rattle.nodes.specs.Change.{of_tickets}
use Rattle.nodes.specs.declared.file.FileState.{FileState}
use Rattle.nodes.specs.File.{IsFile, ticket_at, weight_of, file_of}
use Rattle.nodes.specs.Owners.{HasNumbers, AreNamed}
use Rattle.nodes.specs.Held.{Others, AreHeldBeside}

-- the block of each ticket is whole
abbrev pub AreWhole : ℕ → (ℕ → Option Placed) → Type 0
AreWhole bytes at = (i : ℕ) (t : Placed) → at i ≡ Some t → length t.content ≡ bytes

-- A file of whole blocks, as many as it has tickets, no longer than its tree reaches. Each of its nodes has a number,
-- and who owns a block is who names it.
pub record IsStored {B L : Type 0} (f : FileState B L) : Type 0 where
  pub file : IsFile f
  pub short : f.length ≤ largest_length f.shape
  pub numbered : HasNumbers f
  pub named : AreNamed f
  pub whole : AreWhole (block_bytes f.shape) (ticket_at f)
  pub counted : weight_of f (of_tickets (λ t. 1)) ≡ len (file_of f).blocks

-- what is in hand is the file's, and others'
abbrev pub InHand : {B L : Type 0} → Others → FileState B L → HandView → Type 0
InHand others f hand = AreHeldBeside others f hand.tickets hand.tokens

-- a call worked on one file: it is stored as before, and what others have is still in hand
pub record Serves {B L : Type 0} (old new : FileState B L) (before after : HandView) : Type 0 where
  pub stored : IsStored new
  pub shape : new.shape ≡ old.shape
  pub number : new.token.number ≡ old.token.number
  pub others : (others : Others) → InHand others old before → InHand others new after
  pub book : after.book ≡ before.book
