-- What each claim has, by weight.
use Rattle.std.specs.Prelude.{ℕ}
use Rattle.rights_books.specs.declared.row_claim.Row.{Row}
use Rattle.rights_books.specs.declared.row_claim.RowClaim.{RowClaim}
use Rattle.rights_books.specs.declared.row_claim.RowClaim.TheVariants.{Part, Kept}

-- the part that is in its lock, with its row
abbrev pub part_in : (ℕ → Row → ℕ) → RowClaim → ℕ
part_in h (Part n row) = h n row
part_in h (Kept n row) = 0

-- its twin in the packs' lock
abbrev pub kept_in : (ℕ → Row → ℕ) → RowClaim → ℕ
kept_in h (Part n row) = 0
kept_in h (Kept n row) = h n row
