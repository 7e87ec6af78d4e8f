-- Each row of a folder has a file, and the number that a put takes is its own.
use Rattle.std.proofs.Common.{◌≡◌, ◌≢◌, ◌∙◌, ◌+◌, ◌<◌, ◌≤◌, ℕ, List, [], ◌∷◌, Option, Some, None, All, IfSome, IfNone, length, map, drop, get_or, ap, sym, subst, false, inl, inr}
use Rattle.std.proofs.lemmas.List.{drop_more, drop_all}
use Rattle.std.proofs.lemmas.List.Elements.{All-cons, All-head, All-nil, All-tail}
use Rattle.std.specs.Option.{is_none}
use Rattle.file_cells.specs.Pass.{Pass}
use Rattle.named_files.specs.Files.{file_at, HasFolder, IsNumberFor, IsPlace, IsThere}
use Rattle.named_folder.specs.Folder.{Row}
use Rattle.named_folder.specs.Names.{HasNoRow, IsRowOf, IsRowPlace}
use Rattle.named_folder.specs.Rows.{row_of}
use Rattle.named_folder.specs.declared.entry.FolderRow.{FolderRow}
use Rattle.named_files.proofs.Places.{there_at_place}

-- the files of all rows are there, where those of the rows from i on are
abbrev pub AreThereFrom : List Pass → List FolderRow → ℕ → Type 0
AreThereFrom passes entries i =
    All (λ (row : Row). IsThere passes row.number) (map row_of (drop i entries)) → All (λ (row : Row). IsThere passes row.number) (map row_of entries)

pub there_from_begins : (passes : List Pass) (entries : List FolderRow) → AreThereFrom passes entries 0
there_from_begins passes entries = λ all. all

pub there_from_more : (passes : List Pass) (entries : List FolderRow) (i : ℕ) (entry : FolderRow) (place : Option ℕ) → i < length entries → entry ≡ get_or entries i entry
    → is_none place ≡ false → IfSome place (λ place. IsPlace entry.number passes place) → AreThereFrom passes entries i → AreThereFrom passes entries (i + 1)
there_from_more passes entries i entry None low is found here so_far = absurd (cc)
there_from_more passes entries i entry (Some place) low is found here so_far = λ all.
    so_far
    (subst (λ es. All (λ (row : Row). IsThere passes row.number) (map row_of es)) (sym (drop_more entries i entry low ∙ ap (λ e. e ∷ drop (i + 1) entries) (sym is)))
    (All-cons (λ (row : Row). IsThere passes row.number) (row_of entry) (map row_of (drop (i + 1) entries)) (there_at_place entry.number passes place here) all))

pub there_from_all : (passes : List Pass) (entries : List FolderRow) (i : ℕ) → length entries ≤ i → AreThereFrom passes entries i
    → All (λ (row : Row). IsThere passes row.number) (map row_of entries)
there_from_all passes entries i all so_far =
    so_far (subst (λ es. All (λ (row : Row). IsThere passes row.number) (map row_of es)) (sym (drop_all i entries all)) (All-nil (λ (row : Row). IsThere passes row.number)))

-- a number that no file has is in no row
no_row_of : (number : ℕ) (passes : List Pass) (rows : List Row) → file_at number passes ≡ None → All (λ (row : Row). IsThere passes row.number) rows
    → All (λ (row : Row). row.number ≢ number) rows
no_row_of number passes [] none all = All-nil (λ (row : Row). row.number ≢ number)
no_row_of number passes (row ∷ rows) none all =
    let there = All-head (λ (row : Row). IsThere passes row.number) row rows all in
    All-cons (λ (row : Row). row.number ≢ number) row rows
    (λ same. let both : Some there.0 ≡ None = sym there.1 ∙ ap (λ n. file_at n passes) same ∙ none in absurd (cc))
    (no_row_of number passes rows none (All-tail (λ (row : Row). IsThere passes row.number) row rows all))

pub number_for : (name : List ℕ) (number : ℕ) (rows : List Row) (passes : List Pass) (row : Option ℕ)
    → IfSome row (λ place. IsRowPlace name rows place) → IfNone row (HasNoRow name rows)
    → IfSome row (λ place. (other : List ℕ) → IsRowPlace other rows place → (found : Row) × IsRowOf other rows found × (found.number ≡ number))
    → IfNone row (file_at number passes ≡ None) → All (λ (row : Row). IsThere passes row.number) rows → IsNumberFor name number rows passes
number_for name number rows passes (Some place) here no_name kept made there = inl (kept name here)
number_for name number rows passes None here no_name kept made there = inr (no_name, no_row_of number passes rows made there, made)

-- what holds of all rows holds of that of a name
pub row_of_all : (P : Row → Type 0) (name : List ℕ) (rows : List Row) (row : Row) → All P rows → IsRowOf name rows row → P row
row_of_all P name [] row all named = absurd named
row_of_all P name (r ∷ rows) row all named =
    elim named [
      | inl h ↦ subst P h.1 (All-head P r rows all)
      | inr h ↦ row_of_all P name rows row (All-tail P r rows all) h.1
    ]

-- of an option that is known
pub if_some : {X : Type 0} (P : X → Type 0) (o : Option X) (x : X) → o ≡ Some x → P x → IfSome o P
if_some P o x is holds = subst (λ y. IfSome y P) (sym is) holds

-- the passes have a file of each of the rows that were looked at
pub rows_there : (entries looked : List FolderRow) (passes : List Pass) → entries ≡ looked
    → All (λ (row : Row). IsThere passes row.number) (map row_of looked) → All (λ (row : Row). IsThere passes row.number) (map row_of entries)
rows_there entries looked passes is there = subst (λ (es : List FolderRow). All (λ (row : Row). IsThere passes row.number) (map row_of es)) (sym is) there

-- what was read of these passes holds of those that are the same
pub folder_of : (size : ℕ) (before passes : List Pass) (rows : List Row) → before ≡ passes → HasFolder size passes rows → HasFolder size before rows
folder_of size before passes rows same folder = subst (λ (ps : List Pass). HasFolder size ps rows) (sym same) folder

pub there_of : (before passes : List Pass) (rows : List Row) → before ≡ passes → All (λ (row : Row). IsThere passes row.number) rows
    → All (λ (row : Row). IsThere before row.number) rows
there_of before passes rows same there = subst (λ (ps : List Pass). All (λ (row : Row). IsThere ps row.number) rows) (sym same) there
