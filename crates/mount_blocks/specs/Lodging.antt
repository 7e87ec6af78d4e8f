-- What is lodged in the accounts of files, each of which is at the place before its number.
use Rattle.std.specs.Prelude.{◌≡◌, ℕ, ◌+◌, ◌<◌, ◌==◌, ◌&&◌, nat_lt, if◌then◌else◌, List, length, slice_index_or}
use Rattle.atomic_table.specs.Seated.{TableId}
use Rattle.geometry.specs.Weights.{weigh}
use Rattle.geometry.specs.declared.owner.Mark.{Mark}
use Rattle.geometry.specs.declared.owner.Owner.{Owner}
use Rattle.geometry.specs.declared.owner.Owner.TheVariants.{Node, Data}
use Rattle.rights_books.specs.declared.claim.TakenNumber.{TakenNumber}
use Rattle.rights_books.specs.Accounts.{FileView}
use Rattle.image.specs.Image.{Image, entry_of}

-- the inode of the file that an owner's node is of
abbrev pub file_of : Image → Owner → ℕ
file_of image (Node n) = (entry_of image n).inode
file_of image (Data n s) = (entry_of image n).inode

-- what weighs where it is of this file
abbrev pub of_file : ℕ → ℕ → ℕ → ℕ
of_file inode its n = if its == inode then n else 0

-- what weighs where it is of one of so many files
abbrev pub of_some : ℕ → ℕ → ℕ → ℕ
of_some files its n = if nat_lt 0 its && nat_lt its (files + 1) then n else 0

-- the accounts are of these books
abbrev pub AreOfBook : TableId → List FileView → Type 0
AreOfBook book accounts = (k : ℕ) (other : FileView) → k < length accounts → (slice_index_or accounts k other).book ≡ book

-- Each account has lodged so many tickets and tokens more, by weight. All else of it is as it was.
pub record Lodges (old new : List FileView) (tickets : ℕ → (Mark → ℕ) → ℕ) (tokens : ℕ → (TakenNumber → ℕ) → ℕ) : Type 0 where
  pub count : length new ≡ length old
  pub book : (k : ℕ) (other : FileView) → k < length old → (slice_index_or new k other).book ≡ (slice_index_or old k other).book
  pub inode : (k : ℕ) (other : FileView) → k < length old → (slice_index_or new k other).inode ≡ (slice_index_or old k other).inode
  pub content : (k : ℕ) (other : FileView) → k < length old → (slice_index_or new k other).content ≡ (slice_index_or old k other).content
  pub tickets_more : (k : ℕ) (other : FileView) → k < length old → (h : Mark → ℕ) → weigh h (slice_index_or new k other).tickets ≡ weigh h (slice_index_or old k other).tickets + tickets k h
  pub tokens_more : (k : ℕ) (other : FileView) → k < length old → (h : TakenNumber → ℕ) → weigh h (slice_index_or new k other).tokens ≡ weigh h (slice_index_or old k other).tokens + tokens k h
