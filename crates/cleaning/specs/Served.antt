-- What the move of a block asks of a file and of what is in hand, and what it leaves.
use Rattle.std.specs.Prelude.{◌≡◌, ◌<◌, ℕ, List, length}
use Rattle.atomic_table.specs.Seated.{TableId}
use Rattle.geometry.specs.declared.geometry.Geometry.{Geometry}
use Rattle.geometry.specs.Shape.{block_bytes}
use Rattle.rights_books.specs.Accounts.{HandView}
use Rattle.nodes.specs.declared.file.FileState.{FileState}
use Rattle.nodes.specs.File.{file_of}
use Rattle.nodes.specs.Held.{Others}
use Rattle.nodes.specs.Useful.{IsUseful, each_node}
use Rattle.nodes_law.specs.Law.{FileStateLaw}
use Rattle.nodes_law.specs.Contents.{IsStored, InHand, Serves}

module _ {B L : Type 0} where
  -- a lawful file of the volume, with what is lodged in it in hand; an address, and room for a block
  pub record CanMove (geometry : Geometry) (book : TableId) (address : ℕ) (file : FileState B L) (hand : HandView) (bytes : List ℕ) : Type 0 where
    pub book_is : hand.book ≡ book
    pub shape_is : file.shape ≡ geometry.shape
    pub some : 0 < address
    pub room : length bytes ≡ block_bytes file.shape
    pub stored : IsStored file
    pub law : FileStateLaw geometry.files file
    pub held : (others : Others) × InHand others file hand

  -- the file is what it was, keeps its law and has no node that names nothing, and what others have is still in hand
  pub record HasServed (files : ℕ) (old new : FileState B L) (before after : HandView) : Type 0 where
    pub serves : Serves old new before after
    pub law : FileStateLaw files new
    pub useful : IsUseful each_node old → IsUseful each_node new
    pub file : file_of new ≡ file_of old
