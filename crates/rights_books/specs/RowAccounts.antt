-- What contracts see of the accounts.
use Rattle.std.specs.Prelude.{◌≡◌, ℕ, List, [], ◌∷◌, slice_get, Some}
use Rattle.atomic_table.specs.Seated.{TableId}
use Rattle.rights_books.specs.ClaimRules.{Held}
use Rattle.rights_books.specs.declared.row_claim.Row.{Row}
use Rattle.rights_books.specs.declared.row_claim.RowClaim.{RowClaim}
use Rattle.rights_books.specs.declared.row_claim.RowClaim.TheVariants.{Part, Kept}
use Rattle.rights_books.specs.RowRules.{blank}

-- a part, and its row
pub record RowView : Type 0 where
  pub book : TableId
  pub number : ℕ
  pub row : Row

-- the accounts of parts 0, 1, 2 and so on, of which nothing was spelled
abbrev pub AreBlank : TableId → List RowView → Type 0
AreBlank book accounts = (k : ℕ) (v : RowView) → slice_get accounts k ≡ Some v → v ≡ record { book = book; number = k; row = blank }

-- the parts of one claim
abbrev pub number_of : RowClaim → ℕ
number_of (Part n row) = n
number_of (Kept n row) = n

abbrev pub row_in : RowClaim → Row
row_in (Part n row) = row
row_in (Kept n row) = row

abbrev pub first_of : List RowClaim → RowClaim
first_of [] = Part 0 blank
first_of (c ∷ cs) = c

abbrev pub row_view : Held RowClaim → RowView
row_view h = record { book = h.book; number = number_of (first_of h.claims); row = row_in (first_of h.claims) }

-- the claims of each view
abbrev pub part_claims : RowView → List RowClaim
part_claims v = Part v.number v.row ∷ []

abbrev pub kept_claims : RowView → List RowClaim
kept_claims v = Kept v.number v.row ∷ []
