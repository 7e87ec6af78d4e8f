-- What a call that works on one file asks of it and of what is in hand.
use Rattle.std.specs.Prelude.{◌≡◌}
use Rattle.atomic_table.specs.Seated.{TableId}
use Rattle.geometry.specs.declared.geometry.Geometry.{Geometry}
use Rattle.rights_books.specs.Accounts.{HandView}
use Rattle.nodes.specs.declared.file.FileState.{FileState}
use Rattle.nodes.specs.Held.{Others}
use Rattle.nodes_law.specs.Law.{FileStateLaw}
use Rattle.nodes_law.specs.Contents.{IsStored, InHand}

-- A lawful file of the volume, with what is lodged in it in hand. Others may have rights in the same hand.
pub record CanServe {B L : Type 0} (geometry : Geometry) (book : TableId) (file : FileState B L) (hand : HandView) : Type 0 where
  pub book_is : hand.book ≡ book
  pub shape_is : file.shape ≡ geometry.shape
  pub stored : IsStored file
  pub law : FileStateLaw geometry.files file
  pub held : (others : Others) × InHand others file hand
