-- What the accounts of files have lodged once all that came out of an image is lodged.
use Rattle.std.specs.Prelude.{◌≡◌, ℕ, ◌+◌, ◌<◌, List, length, None, slice_index_or}
use Rattle.atomic_table.specs.Seated.{TableId}
use Rattle.geometry.specs.Weights.{weigh}
use Rattle.geometry.specs.declared.owner.Mark.{Mark}
use Rattle.rights_books.specs.declared.claim.TakenNumber.{TakenNumber}
use Rattle.rights_books.specs.Accounts.{FileView}
use Rattle.image.specs.Image.{Image}
use Rattle.mount_blocks.specs.TreeGoods.{Shelves, in_place}
use Rattle.mount_blocks.specs.Lodging.{file_of, of_file}
use Rattle.tickets.specs.Placed.{Placed}

-- The account of an inode, of which no pass is out, has lodged the tickets and the tokens of the inode, out of all that there are.
pub record HasLodged (book : TableId) (image : Image) (all : Shelves Placed) (inode : ℕ) (account : FileView) : Type 0 where
  pub book_is : account.book ≡ book
  pub inode_is : account.inode ≡ inode
  pub none : account.content ≡ None
  pub tickets : (h : Mark → ℕ) → weigh h account.tickets ≡ weigh (in_place (λ (t : Placed). of_file inode (file_of image t.mark.owner) (h t.mark))) all.tickets
  pub tokens : (h : TakenNumber → ℕ) → weigh h account.tokens ≡ weigh (in_place (λ (e : TakenNumber). of_file inode e.inode (h e))) all.tokens

-- the accounts of the inodes from 1 on
abbrev pub HaveLodged : TableId → Image → Shelves Placed → List FileView → Type 0
HaveLodged book image all accounts = (k : ℕ) (other : FileView) → k < length accounts → HasLodged book image all (k + 1) (slice_index_or accounts k other)
