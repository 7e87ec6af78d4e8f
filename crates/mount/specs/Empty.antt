-- The accounts of files before anything is lodged.
use Rattle.std.specs.Prelude.{◌≡◌, ℕ, ◌+◌, ◌<◌, List, [], None, length, slice_index_or}
use Rattle.atomic_table.specs.Seated.{TableId}
use Rattle.rights_books.specs.Accounts.{FileView}

-- the accounts of the inodes from 1 on, in which nothing is lodged and of which no pass is out
abbrev pub AreEmptyAccounts : TableId → List FileView → Type 0
AreEmptyAccounts book accounts = (k : ℕ) (other : FileView) → k < length accounts
    → slice_index_or accounts k other ≡ record { book = book; inode = k + 1; tickets = []; tokens = []; content = None }
