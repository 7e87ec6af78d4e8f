-- A search for the first row of a name goes on, finds one, or ends.
use Rattle.std.proofs.Common.{◌≡◌, ◌≢◌, ◌∙◌, ◌+◌, ◌<◌, ◌≤◌, ℕ, suc, List, ◌∷◌, length, drop, get_or, ap, sym, subst, add-zero, arith}
use Rattle.std.proofs.lemmas.List.{drop_more, drop_all}
use Rattle.named_folder.specs.Folder.{Row}
use Rattle.named_folder.specs.Names.{HasNoRow, IsRowPlace}

after_next : (i k : ℕ) → i + suc k ≡ i + 1 + k
after_next i k = omega arith

-- the first i rows have another name
pub record PassedRows (name : List ℕ) (i : ℕ) (rows : List Row) : Type 0 where
  pub place : (k : ℕ) → IsRowPlace name (drop i rows) k → IsRowPlace name rows (i + k)
  pub none : HasNoRow name (drop i rows) → HasNoRow name rows

pub passed_no_rows : (name : List ℕ) (rows : List Row) → PassedRows name 0 rows
passed_no_rows name rows = record { place = λ k here. subst (IsRowPlace name rows) (omega arith) here; none = λ none. none }

module _ (name : List ℕ) (i : ℕ) (rows : List Row) (row : Row) (low : i < length rows) (is : row ≡ get_or rows i row) (passed : PassedRows name i rows) where
  next_row : drop i rows ≡ row ∷ drop (i + 1) rows
  next_row = drop_more rows i row low ∙ ap (λ r. r ∷ drop (i + 1) rows) (sym is)

  pub passed_rows_more : row.name ≢ name → PassedRows name (i + 1) rows
  passed_rows_more other = record {
    place = λ k here. subst (IsRowPlace name rows) (after_next i k) (passed.place (suc k) (subst (λ rs. IsRowPlace name rs (suc k)) (sym next_row) (other, here)));
    none = λ none. passed.none (subst (HasNoRow name) (sym next_row) (other, none));
  }

  pub passed_row_here : row.name ≡ name → IsRowPlace name rows i
  passed_row_here same = subst (IsRowPlace name rows) (add-zero i) (passed.place 0 (subst (λ rs. IsRowPlace name rs 0) (sym next_row) same))

pub passed_all_rows : (name : List ℕ) (i : ℕ) (rows : List Row) → length rows ≤ i → PassedRows name i rows → HasNoRow name rows
passed_all_rows name i rows all passed = passed.none (subst (HasNoRow name) (sym (drop_all i rows all)) tt)
