-- What holds of a file while its lock is free.
use Rattle.std.specs.Prelude.{◌≡◌, ℕ, [], Option, Some, None}
use Rattle.atomic_table.specs.Seated.{TableId}
use Rattle.geometry.specs.declared.geometry.Geometry.{Geometry}
use Rattle.rights_books.specs.Accounts.{FileView}
use Rattle.rights_books.specs.Contents.{as_content}
use Rattle.nodes.specs.declared.file.FileState.{FileState}
use Rattle.nodes.specs.File.{file_of}
use Rattle.nodes.specs.Held.{AreHeld}
use Rattle.nodes_law.specs.Law.{FileStateLaw}
use Rattle.nodes_law.specs.Contents.{IsStored}

-- A file's state between calls, under the law that an image of it needs. The account has lodged its tickets and tokens, each
-- as often.
pub record IsLodged {B L : Type 0} (geometry : Geometry) (account : FileView) (f : FileState B L) : Type 0 where
  pub stored : IsStored f
  pub shape_is : f.shape ≡ geometry.shape
  pub law : FileStateLaw geometry.files f
  pub lodged : AreHeld f account.tickets account.tokens

-- there is a file, which the account shows, or none
abbrev pub Keeps : {B L : Type 0} → Geometry → ℕ → FileView → Option (FileState B L) → Type 0
Keeps geometry number account None = (account.tickets ≡ []) × (account.tokens ≡ []) × (account.content ≡ None)
Keeps geometry number account (Some f) = IsLodged geometry account f × (f.token.number ≡ number) × (account.content ≡ Some (as_content (file_of f)))

-- the account is that of this inode number in these books
pub record IsCell {B L : Type 0} (book : TableId) (geometry : Geometry) (number : ℕ) (account : FileView) (state : Option (FileState B L)) : Type 0 where
  pub book_is : account.book ≡ book
  pub inode_is : account.inode ≡ number
  pub keeps : Keeps geometry number account state

-- what contracts see of a cell: the number of its inode, its account, and the file, where there is one
pub record CellView (B L : Type 0) : Type 0 where
  pub number : ℕ
  pub account : FileView
  pub state : Option (FileState B L)

-- what is in the lock keeps its law
abbrev pub IsLawfulCell : {B L : Type 0} → TableId → Geometry → CellView B L → Type 0
IsLawfulCell book geometry c = IsCell book geometry c.number c.account c.state
