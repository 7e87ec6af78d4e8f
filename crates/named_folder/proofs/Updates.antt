-- What becomes of the rows of a name after one was set, pushed, removed or renamed.
use Rattle.std.proofs.Common.{◌≡◌, ◌++◌, ◌∙◌, ℕ, zero, suc, List, [], ◌∷◌, length, set, take, remove, get_or, map, ap, refl, inl, inr}
use Rattle.std.proofs.lemmas.List.{length-set, take_at}
use Rattle.named_folder.specs.Folder.{Row}
use Rattle.named_folder.specs.Names.{HasNoRow, IsRowOf, IsRowPlace, Removes, Renames, Renews}

pub renews_set : (row : Row) (rows : List Row) (place : ℕ) → IsRowPlace row.name rows place → Renews row rows (set rows place row)
renews_set row [] place here = absurd here
renews_set row (r ∷ rows) zero here = inl (here, refl)
renews_set row (r ∷ rows) (suc place) here = inr (here.0, (set rows place row, refl, renews_set row rows place here.1))

pub renews_push : (row : Row) (rows : List Row) → HasNoRow row.name rows → Renews row rows (rows ++ row ∷ [])
renews_push row [] none = refl
renews_push row (r ∷ rows) none = inr (none.0, (rows ++ row ∷ [], refl, renews_push row rows none.1))

pub removes_at : (name : List ℕ) (rows : List Row) (place : ℕ) → IsRowPlace name rows place → Removes name rows (remove rows place)
removes_at name [] place here = absurd here
removes_at name (r ∷ rows) zero here = inl (here, refl)
removes_at name (r ∷ rows) (suc place) here = inr (here.0, (remove rows place, refl, removes_at name rows place here.1))

pub renames_at : (name to : List ℕ) (rows : List Row) (place : ℕ) (other : Row) → IsRowPlace name rows place
    → Renames name to rows (set rows place (record (get_or rows place other) { name = to }))
renames_at name to [] place other here = absurd here
renames_at name to (r ∷ rows) zero other here = inl (here, refl)
renames_at name to (r ∷ rows) (suc place) other here =
    inr (here.0, (set rows place (record (get_or rows place other) { name = to }), refl, renames_at name to rows place other here.1))

pub row_of_place : (name : List ℕ) (rows : List Row) (place : ℕ) (other : Row) → IsRowPlace name rows place → IsRowOf name rows (get_or rows place other)
row_of_place name [] place other here = absurd here
row_of_place name (r ∷ rows) zero other here = inl (here, refl)
row_of_place name (r ∷ rows) (suc place) other here = inr (here.0, row_of_place name rows place other here.1)

pub map-remove : {X Y : Type 0} (f : X → Y) (xs : List X) (i : ℕ) → map f (remove xs i) ≡ remove (map f xs) i
map-remove f [] zero = refl
map-remove f [] (suc i) = refl
map-remove f (x ∷ xs) zero = refl
map-remove f (x ∷ xs) (suc i) = ap (λ ys. f x ∷ ys) (map-remove f xs i)

-- what a slice of a list wrote at a place is written there in the list
pub written_back : {X : Type 0} (xs ys zs : List X) (n i : ℕ) (x : X) → ys ≡ xs → length xs ≡ n → take n (set ys i x ++ zs) ≡ set xs i x
written_back xs ys zs n i x same long = take_at (set ys i x) zs n (length-set ys i x ∙ ap length same ∙ long) ∙ ap (λ l. set l i x) same
