-- What a flush asks of a file and of what is in hand, and what it makes of them.
use Rattle.std.specs.Prelude.{◌≡◌, ◌≤◌, ℕ, ◌+◌}
use Rattle.atomic_table.specs.Seated.{TableId}
use Rattle.geometry.specs.declared.geometry.Geometry.{Geometry}
use Rattle.geometry.specs.Weights.{weigh, SameItems}
use Rattle.rights_books.specs.declared.claim.TakenNumber.{TakenNumber}
use Rattle.rights_books.specs.Accounts.{HandView}
use Rattle.tickets.specs.Placed.{Placed}
use Rattle.nodes.specs.Change.{of_tickets, of_tokens, each_marked}
use Rattle.nodes.specs.declared.file.FileState.{FileState}
use Rattle.nodes.specs.File.{IsFile, weight_of}
use Rattle.nodes.specs.Held.{Others, AreHeldBeside}
use Rattle.nodes.specs.Owners.{HasNumbers}
use Rattle.nodes_law.specs.Law.{FileStateLaw}
use Rattle.nodes_walks.specs.Kept.{KeepsFile}

-- A lawful file of the volume whose nodes have numbers, with what is lodged in it in hand.
pub record CanFlush {B L : Type 0} (geometry : Geometry) (book : TableId) (file : FileState B L) (hand : HandView) : Type 0 where
  pub book_is : hand.book ≡ book
  pub shape_is : file.shape ≡ geometry.shape
  pub file_is : IsFile file
  pub numbered : HasNumbers file
  pub law : FileStateLaw geometry.files file
  pub held : (others : Others) × AreHeldBeside others file hand.tickets hand.tokens

-- Some nodes of a file were written: it shows what it showed, by the same tickets, no more nodes are marked, and its law holds
-- still. What is in hand has changed by its tokens alone.
pub record HasFlushed {B L : Type 0} (files : ℕ) (old new : FileState B L) (before after : HandView) : Type 0 where
  pub kept : KeepsFile old new
  pub law : FileStateLaw files new
  pub numbered : HasNumbers new
  pub fewer : weight_of new each_marked ≤ weight_of old each_marked
  pub tickets : (h : Placed → ℕ) → weight_of new (of_tickets h) ≡ weight_of old (of_tickets h)
  pub book : after.book ≡ before.book
  pub hand_tickets : SameItems after.tickets before.tickets
  pub hand_tokens : (h : TakenNumber → ℕ) → weigh h after.tokens + weight_of old (of_tokens h) ≡ weigh h before.tokens + weight_of new (of_tokens h)
