-- The rule of the rows. It adds up what all claims have together: t h is the weight h of each, added up.
use Rattle.std.specs.Prelude.{◌≡◌, ℕ, zero, suc, ◌≤◌, ◌==◌, List, [], ◌∷◌, if◌then◌else◌}
use Rattle.rights_books.specs.declared.row_claim.Row.{Row}
use Rattle.rights_books.specs.declared.row_claim.RowClaim.{RowClaim}
use Rattle.rights_books.specs.declared.row_claim.RowClaim.TheVariants.{Part, Kept}
use Rattle.rights_books.specs.RowWeights.{part_in, kept_in}

-- 1 for the part of this number
abbrev pub at : ℕ → ℕ → Row → ℕ
at n k row = if k == n then 1 else 0

pub record Lawful (t : (RowClaim → ℕ) → ℕ) : Type 0 where
  -- each part has the row that its twin has
  pub twins : (h : ℕ → Row → ℕ) → t (part_in h) ≡ t (kept_in h)
  -- no number has two parts
  pub alone : (n : ℕ) → t (part_in (at n)) ≤ 1

-- the row of a part of which nothing was spelled
abbrev pub blank : Row
blank = record { mtime = 0; owners = []; nodes = [] }

-- both accounts of each of n parts, from part s on
abbrev pub pairs_from : ℕ → ℕ → List RowClaim
pairs_from s zero = []
pairs_from s (suc n) = Part s blank ∷ Kept s blank ∷ pairs_from (suc s) n

-- the claims of n parts of which nothing was spelled
abbrev pub opening : ℕ → List RowClaim
opening n = pairs_from 0 n
