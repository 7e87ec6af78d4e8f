-- A file in its lock as a part of an image.
use Rattle.std.specs.Prelude.{◌≡◌, ◌≤◌, ℕ, [], Option, Some, None}
use Rattle.geometry.specs.declared.geometry.Geometry.{Geometry}
use Rattle.geometry.specs.Path.{largest_length}
use Rattle.rights_books.specs.Accounts.{FileView}
use Rattle.nodes.specs.Change.{each_marked}
use Rattle.nodes.specs.declared.file.FileState.{FileState}
use Rattle.nodes.specs.File.{IsFile, weight_of}
use Rattle.nodes.specs.Held.{AreHeld}
use Rattle.nodes.specs.Owners.{AreNamed}
use Rattle.nodes_law.specs.Law.{FileStateLaw}
use Rattle.checkpoint_sync.specs.TreeOf.{seen, tree_of}
use Rattle.checkpoint_image.specs.Cells.{Filed}

-- the tree of its state, where it lives, and what its account has lodged
abbrev pub filed_of : {B L : Type 0} → FileView → Option (FileState B L) → Filed
filed_of account state = record { tree = seen tree_of state; tickets = account.tickets; tokens = account.tokens }

-- a file of this inode number under its law, none of whose nodes is marked, and whose account has its tickets and tokens
pub record IsFlushed {B L : Type 0} (geometry : Geometry) (inode : ℕ) (account : FileView) (f : FileState B L) : Type 0 where
  pub file : IsFile f
  pub short : f.length ≤ largest_length geometry.shape
  pub shape : f.shape ≡ geometry.shape
  pub number : f.token.number ≡ inode
  pub lodged : AreHeld f account.tickets account.tokens
  pub named : AreNamed f
  pub law : FileStateLaw geometry.files f
  pub clean : weight_of f each_marked ≡ 0

-- the same, or no file, with nothing lodged
abbrev pub IsFlushedOrNone : {B L : Type 0} → Geometry → ℕ → FileView → Option (FileState B L) → Type 0
IsFlushedOrNone geometry inode account None = (account.tickets ≡ []) × (account.tokens ≡ [])
IsFlushedOrNone geometry inode account (Some f) = IsFlushed geometry inode account f
