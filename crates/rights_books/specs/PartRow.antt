-- What a part keeps of its row.
use Rattle.std.specs.Prelude.{◌≡◌, ℕ, ◌<◌, List, length, slice_index_or, Bool, true, false, Option, Some, None}
use Rattle.atomic_table.specs.Seated.{TableId}
use Rattle.rights_books.specs.declared.row_claim.Row.{Row}
use Rattle.rights_books.specs.RowAccounts.{RowView}

-- a part by its number, among those of these rows
pub record PartName : Type 0 where
  pub book : TableId
  pub number : ℕ

abbrev pub name_of : RowView → PartName
name_of v = record { book = v.book; number = v.number }

-- the accounts of parts 0, 1, 2 and so on
abbrev pub AreInOrder : TableId → List RowView → Type 0
AreInOrder book accounts = (k : ℕ) (other : RowView) → k < length accounts → name_of (slice_index_or accounts k other) ≡ record { book = book; number = k }

-- which part it is, where it has an account, and the row that is noted of it, where that is its own
pub record PartRowView : Type 0 where
  pub part : Option PartName
  pub noted : Option Row

abbrev pub part_of : Option RowView → Option PartName
part_of None = None
part_of (Some v) = Some (name_of v)

-- nothing is known of a part that has changed, or has no account
abbrev pub noted_of : Bool → Option RowView → Option Row
noted_of true account = None
noted_of false None = None
noted_of false (Some v) = Some v.row
