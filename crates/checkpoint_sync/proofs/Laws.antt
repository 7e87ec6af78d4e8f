-- A file whose nodes are all written is filed under its law at its own number, so the accounts stand in order, and the
-- tree that an image has for that number is the file's state.
use Rattle.std.proofs.Common.{◌≡◌, ℕ, ◌+◌, ◌≤◌, List, Option, Some, map, sym, ap, subst, ◌∙◌}
use Rattle.std.specs.Prelude.{slice_get}
use Rattle.std.specs.Option.{option_map}
use Rattle.std.proofs.lemmas.Option.{slice_get-map}
use Rattle.atomic_table.specs.Seated.{TableId}
use Rattle.geometry.specs.declared.geometry.Geometry.{Geometry}
use Rattle.geometry.specs.Path.{largest_length}
use Rattle.rights_books.specs.Accounts.{FileView, AreFiles}
use Rattle.image.specs.Image.{Image}
use Rattle.nodes.specs.declared.file.FileState.{FileState}
use Rattle.checkpoint_image.specs.Cells.{Filed, IsFiledAt}
use Rattle.checkpoint_sync.specs.TreeOf.{seen, tree_of}
use Rattle.checkpoint_sync.proofs.Contents.{is_state_of}
use Rattle.checkpoint_sync.specs.FileParts.{filed_of, IsFlushedOrNone}
use Rattle.checkpoint_sync.proofs.Filing.{filed}
use Rattle.file_cells.specs.Cell.{CellView}
use Rattle.checkpoint_sync.specs.WrittenFiles.{IsWrittenCell, AreWritten}
use Rattle.checkpoint_sync.specs.LocksHeld.{AreHeldFiles, HasTrees}
use Rattle.checkpoint_sync.proofs.LockLaws.{shown_by}
use Rattle.checkpoint.specs.Files.{IsStateOf}

module _ {B L : Type 0} where
  abbrev account_of : CellView B L → FileView
  account_of c = c.account

  abbrev filed_in : CellView B L → Filed
  filed_in c = filed_of c.account c.state

  module _ (book : TableId) (geometry : Geometry) (files : List (CellView B L)) (are : AreWritten book geometry files) where
    pub accounts_are : AreFiles book (map account_of files)
    accounts_are k v at =
        let found = shown_by account_of files k v at in
        let is = are k found.0 found.1 in
        subst (λ (a : FileView). (a.inode ≡ k + 1) × (a.book ≡ book)) found.2 (is.1.lawful.inode_is ∙ is.0, is.1.lawful.book_is)

    pub held_are : AreHeldFiles geometry (map filed_in files)
    held_are k f at =
        let found = shown_by filed_in files k f at in
        let c = found.0 in
        let is = are k c found.1 in
        subst (IsFiledAt geometry (k + 1)) found.2
        (subst (λ n. IsFiledAt geometry n (filed_in c)) (is.1.lawful.inode_is ∙ is.0) (filed geometry c.account.inode c.account c.state is.1.flushed))

  -- the state of a file is the image's file of its number
  pub state_is : (book : TableId) (geometry : Geometry) (image : Image) (files : List (CellView B L)) (k : ℕ) (c : CellView B L) (f : FileState B L)
      → HasTrees image (map filed_in files) → slice_get files k ≡ Some c → IsWrittenCell book geometry c → c.state ≡ Some f → IsStateOf image f
  state_is book geometry image files k c f trees there written some =
      let flushed = subst (IsFlushedOrNone geometry c.account.inode c.account) some written.flushed in
      is_state_of f flushed.file (subst (λ s. f.length ≤ largest_length s) (sym flushed.shape) flushed.short) image
      (trees k (filed_in c) (tree_of f) (slice_get-map filed_in files k ∙ ap (option_map filed_in) there) (ap (seen tree_of) some))

  -- the number of the file at a place
  pub number_is : (book : TableId) (geometry : Geometry) (files : List (CellView B L)) (k : ℕ) (c : CellView B L) → AreFiles book (map account_of files) → slice_get files k ≡ Some c
      → IsWrittenCell book geometry c → c.number ≡ k + 1
  number_is book geometry files k c accounts there written =
      sym written.lawful.inode_is ∙ (accounts k c.account (slice_get-map account_of files k ∙ ap (option_map account_of) there)).0
