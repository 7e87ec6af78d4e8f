-- A call that works on a file with spare nodes beside it: what is in hand is the file's, the spare nodes' and others'.
use Rattle.std.specs.Prelude.{◌≡◌, ◌<◌, ℕ, List, length}
use Rattle.atomic_table.specs.Seated.{TableId}
use Rattle.geometry.specs.declared.geometry.Geometry.{Geometry}
use Rattle.geometry.specs.Path.{node_entries, largest_length}
use Rattle.geometry.specs.Shape.{block_bytes}
use Rattle.rights_books.specs.Accounts.{HandView}
use Rattle.nodes.specs.Change.{unnumbered}
use Rattle.nodes.specs.declared.file.FileState.{FileState}
use Rattle.nodes.specs.declared.spare_path.SparePath.{SparePath}
use Rattle.nodes.specs.Lacking.{spare_tokens, AreEmptyNodes}
use Rattle.nodes.specs.Held.{Others, with_spares}
use Rattle.nodes_law.specs.Law.{FileStateLaw, HaveOwnTokens}
use Rattle.nodes_law.specs.Contents.{IsStored, InHand}

-- nodes that may come into the file: none names anything, and each has a number
pub record IsSpareFor {B L : Type 0} (f : FileState B L) (spares : SparePath B L) : Type 0 where
  pub empty : AreEmptyNodes (node_entries f.shape) spares
  pub numbered : spare_tokens unnumbered spares ≡ 0

-- A call worked on one file: it is stored as before, and what others have is still in hand.
pub record ServesBeside {B L : Type 0} (old new : FileState B L) (had has : SparePath B L) (before after : HandView) : Type 0 where
  pub stored : IsStored new
  pub spare : IsSpareFor new has
  pub shape : new.shape ≡ old.shape
  pub number : new.token.number ≡ old.token.number
  pub others : (others : Others) → InHand (with_spares had others) old before → InHand (with_spares has others) new after
  pub book : after.book ≡ before.book

-- the law of a file whose spare nodes are beside it: their tokens are the file's too
pub record HasLawBeside {B L : Type 0} (files : ℕ) (f : FileState B L) (spares : SparePath B L) : Type 0 where
  pub law : FileStateLaw files f
  pub own : HaveOwnTokens files f.shape f.token.number spares

-- A block of these bytes may be written at an index of a lawful file of the volume: nodes that may come into it are beside it,
-- and what is lodged in both is in hand.
pub record CanWriteBeside {B L : Type 0} (geometry : Geometry) (book : TableId) (index : ℕ) (file : FileState B L) (spares : SparePath B L) (hand : HandView) (bytes : List ℕ) : Type 0 where
  pub book_is : hand.book ≡ book
  pub shape_is : file.shape ≡ geometry.shape
  pub inside : index < largest_length file.shape
  pub whole : length bytes ≡ block_bytes file.shape
  pub stored : IsStored file
  pub spare : IsSpareFor file spares
  pub law : HasLawBeside geometry.files file spares
  pub held : (others : Others) × InHand (with_spares spares others) file hand
