-- What becomes of the rows of entries when one is replaced, put behind all, or taken out.
use Rattle.std.proofs.Common.{◌≡◌, ◌∙◌, ◌++◌, ◌<◌, ℕ, zero, suc, List, [], ◌∷◌, All, length, set, remove, get_or, map, string_bytes, ap, sym, subst}
use Rattle.std.proofs.Math.ListN.{get_or-map}
use Rattle.std.proofs.lemmas.List.{length-map, map-append, map-set}
use Rattle.std.proofs.lemmas.List.Elements.{All-cons, All-get_or, All-head, All-push, All-set, All-tail}
use Rattle.named_folder.specs.Folder.{Row, IsRow}
use Rattle.named_folder.specs.Names.{HasNoRow, IsRowOf, IsRowPlace, Removes, Renames, Renews}
use Rattle.named_folder.specs.Rows.{row_of}
use Rattle.named_folder.specs.declared.entry.FolderRow.{FolderRow}
use Rattle.named_folder.proofs.Spelling.{same_row}
use Rattle.named_folder.proofs.Updates.{renews_set, renews_push, removes_at, renames_at, row_of_place, map-remove}

-- the row of an entry that stands among others
pub row_there : (entries : List FolderRow) (place : ℕ) (entry : FolderRow) → entry ≡ get_or entries place entry → get_or (map row_of entries) place (row_of entry) ≡ row_of entry
row_there entries place entry is = get_or-map row_of entries place entry ∙ ap row_of (sym is)

pub is_row_there : (entries : List FolderRow) (place : ℕ) (entry : FolderRow) → entry ≡ get_or entries place entry → place < length entries → All IsRow (map row_of entries)
    → IsRow (row_of entry)
is_row_there entries place entry is low all =
    subst IsRow (row_there entries place entry is)
    (All-get_or IsRow (map row_of entries) place (row_of entry) (subst (λ n. place < n) (sym (length-map entries row_of)) low) all)

pub found_row : (name : List ℕ) (entries : List FolderRow) (place : ℕ) (entry : FolderRow) → entry ≡ get_or entries place entry → IsRowPlace name (map row_of entries) place
    → IsRowOf name (map row_of entries) (row_of entry)
found_row name entries place entry is here =
    subst (IsRowOf name (map row_of entries)) (row_there entries place entry is) (row_of_place name (map row_of entries) place (row_of entry) here)

-- an entry takes the place of another
module _ (entries after : List FolderRow) (place : ℕ) (entry : FolderRow) (set_is : after ≡ set entries place entry) where
  rows_are : map row_of after ≡ set (map row_of entries) place (row_of entry)
  rows_are = ap (map row_of) set_is ∙ map-set row_of entries place entry

  pub rows_set : IsRow (row_of entry) → All IsRow (map row_of entries) → All IsRow (map row_of after)
  rows_set is_row all = subst (All IsRow) (sym rows_are) (All-set IsRow (map row_of entries) place (row_of entry) is_row all)

  pub renewed_set : (row : Row) → row_of entry ≡ row → IsRowPlace row.name (map row_of entries) place → Renews row (map row_of entries) (map row_of after)
  renewed_set row is here =
      subst (Renews row (map row_of entries)) (sym (rows_are ∙ ap (set (map row_of entries) place) is)) (renews_set row (map row_of entries) place here)

  pub renamed_set : (name to : List ℕ) (old : FolderRow) → old ≡ get_or entries place old → string_bytes entry.name ≡ to → entry.number ≡ old.number → entry.bytes ≡ old.bytes
      → IsRowPlace name (map row_of entries) place → Renames name to (map row_of entries) (map row_of after)
  renamed_set name to old is named number bytes here =
      let rows : List Row = map row_of entries in
      let there : get_or rows place (row_of old) ≡ row_of old = row_there entries place old is in
      let row_is : row_of entry ≡ record (get_or rows place (row_of old)) { name = to }
      = same_row (row_of entry) (record (get_or rows place (row_of old)) { name = to }) named
      (number ∙ ap (λ (r : Row). r.number) (sym there)) (bytes ∙ ap (λ (r : Row). r.bytes) (sym there)) in
      subst (Renames name to rows) (sym (rows_are ∙ ap (set rows place) row_is)) (renames_at name to rows place (row_of old) here)

-- an entry stands behind all
module _ (entries after : List FolderRow) (entry : FolderRow) (push_is : after ≡ entries ++ entry ∷ []) where
  rows_go_on : map row_of after ≡ map row_of entries ++ row_of entry ∷ []
  rows_go_on = ap (map row_of) push_is ∙ map-append row_of entries (entry ∷ [])

  pub rows_push : IsRow (row_of entry) → All IsRow (map row_of entries) → All IsRow (map row_of after)
  rows_push is_row all = subst (All IsRow) (sym rows_go_on) (All-push IsRow (map row_of entries) (row_of entry) all is_row)

  pub renewed_push : (row : Row) → row_of entry ≡ row → HasNoRow row.name (map row_of entries) → Renews row (map row_of entries) (map row_of after)
  renewed_push row is none =
      subst (Renews row (map row_of entries)) (sym (rows_go_on ∙ ap (λ r. map row_of entries ++ r ∷ []) is)) (renews_push row (map row_of entries) none)

all_remove : {X : Type 0} (P : X → Type 0) (xs : List X) (i : ℕ) → All P xs → All P (remove xs i)
all_remove P [] zero all = all
all_remove P [] (suc i) all = all
all_remove P (x ∷ xs) zero all = All-tail P x xs all
all_remove P (x ∷ xs) (suc i) all = All-cons P x (remove xs i) (All-head P x xs all) (all_remove P xs i (All-tail P x xs all))

-- an entry goes
module _ (entries after : List FolderRow) (place : ℕ) (remove_is : after ≡ remove entries place) where
  rows_left : map row_of after ≡ remove (map row_of entries) place
  rows_left = ap (map row_of) remove_is ∙ map-remove row_of entries place

  pub removed_row : (name : List ℕ) → IsRowPlace name (map row_of entries) place → Removes name (map row_of entries) (map row_of after)
  removed_row name here = subst (Removes name (map row_of entries)) (sym rows_left) (removes_at name (map row_of entries) place here)

  pub rows_remove : All IsRow (map row_of entries) → All IsRow (map row_of after)
  rows_remove all = subst (All IsRow) (sym rows_left) (all_remove IsRow (map row_of entries) place all)
