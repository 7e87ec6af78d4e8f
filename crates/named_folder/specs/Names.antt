-- Which row a name has, and what becomes of the rows when one is put, taken out or renamed. Of rows with one name the first counts.
use Rattle.std.specs.Prelude.{◌≡◌, ◌≢◌, ◌⊎◌, ℕ, zero, suc, List, [], ◌∷◌}
use Rattle.named_folder.specs.Folder.{Row}

-- the first row of the name stands here
abbrev pub IsRowPlace : List ℕ → List Row → ℕ → Type 0
IsRowPlace name [] place = ⊥
IsRowPlace name (row ∷ rows) zero = row.name ≡ name
IsRowPlace name (row ∷ rows) (suc place) = (row.name ≢ name) × IsRowPlace name rows place

abbrev pub HasNoRow : List ℕ → List Row → Type 0
HasNoRow name [] = Unit {0}
HasNoRow name (row ∷ rows) = (row.name ≢ name) × HasNoRow name rows

-- the first row of the name
abbrev pub IsRowOf : List ℕ → List Row → Row → Type 0
IsRowOf name [] found = ⊥
IsRowOf name (row ∷ rows) found = ((row.name ≡ name) × (row ≡ found)) ⊎ ((row.name ≢ name) × IsRowOf name rows found)

-- the row takes the place of the first of its name, or stands behind all where there is none
abbrev pub Renews : Row → List Row → List Row → Type 0
Renews row [] after = after ≡ row ∷ []
Renews row (other ∷ rows) after =
    ((other.name ≡ row.name) × (after ≡ row ∷ rows)) ⊎ ((other.name ≢ row.name) × ((rest : List Row) × (after ≡ other ∷ rest) × Renews row rows rest))

-- the first row of the name goes
abbrev pub Removes : List ℕ → List Row → List Row → Type 0
Removes name [] after = ⊥
Removes name (row ∷ rows) after =
    ((row.name ≡ name) × (after ≡ rows)) ⊎ ((row.name ≢ name) × ((rest : List Row) × (after ≡ row ∷ rest) × Removes name rows rest))

-- the first row of the name gets another
abbrev pub Renames : List ℕ → List ℕ → List Row → List Row → Type 0
Renames name to [] after = ⊥
Renames name to (row ∷ rows) after =
    ((row.name ≡ name) × (after ≡ record row { name = to } ∷ rows)) ⊎ ((row.name ≢ name) × ((rest : List Row) × (after ≡ row ∷ rest) × Renames name to rows rest))
