-- What has one name keeps its row when another row is put, taken out or renamed, and the rows keep numbers of their own.
use Rattle.std.proofs.Common.{◌≡◌, ◌≢◌, ◌∙◌, ℕ, List, [], ◌∷◌, All, ap, sym, subst, refl, inl, inr}
use Rattle.std.proofs.lemmas.List.Elements.{All-cons, All-head, All-nil, All-tail}
use Rattle.named_folder.specs.Folder.{Row}
use Rattle.named_folder.specs.Names.{HasNoRow, IsRowOf, Removes, Renames, Renews}
use Rattle.named_files.proofs.Rows.{row_of_all}
use Rattle.named_files.specs.Kept.{HaveOwnNumbers}

-- a name has one row
pub one_row : (name : List ℕ) (rows : List Row) (row other : Row) → IsRowOf name rows row → IsRowOf name rows other → row ≡ other
one_row name [] row other named too = absurd named
one_row name (r ∷ rows) row other (inl h) (inl k) = sym h.1 ∙ k.1
one_row name (r ∷ rows) row other (inl h) (inr k) = absurd (k.0 h.0)
one_row name (r ∷ rows) row other (inr h) (inl k) = absurd (h.0 k.0)
one_row name (r ∷ rows) row other (inr h) (inr k) = one_row name rows row other h.1 k.1

-- a name that has a row is not free
pub not_free : (name : List ℕ) (rows : List Row) (row : Row) → HasNoRow name rows → IsRowOf name rows row → ⊥
not_free name [] row free named = named
not_free name (r ∷ rows) row free (inl h) = free.0 h.0
not_free name (r ∷ rows) row free (inr h) = not_free name rows row free.1 h.1

-- rows of two names have two numbers
pub rows_apart : (name other : List ℕ) (rows : List Row) (row found : Row) → name ≢ other → HaveOwnNumbers rows → IsRowOf name rows row → IsRowOf other rows found
    → row.number ≢ found.number
rows_apart name other [] row found differ own named there = absurd named
rows_apart name other (r ∷ rows) row found differ own (inl h) (inl k) = absurd (differ (sym h.0 ∙ k.0))
rows_apart name other (r ∷ rows) row found differ own (inl h) (inr k) =
    λ same. row_of_all (λ (o : Row). o.number ≢ r.number) other rows found own.0 k.1 (sym same ∙ ap (λ (x : Row). x.number) (sym h.1))
rows_apart name other (r ∷ rows) row found differ own (inr h) (inl k) =
    λ same. row_of_all (λ (o : Row). o.number ≢ r.number) name rows row own.0 h.1 (same ∙ ap (λ (x : Row). x.number) (sym k.1))
rows_apart name other (r ∷ rows) row found differ own (inr h) (inr k) = rows_apart name other rows row found differ own.1 h.1 k.1

module _ (name : List ℕ) (r : Row) (rows : List Row) (row : Row) where
  -- the row of the name is behind one of another name
  behind : r.name ≢ name → IsRowOf name (r ∷ rows) row → IsRowOf name rows row
  behind other (inl h) = absurd (other h.0)
  behind other (inr h) = h.1

  in_front : (rest : List Row) → (IsRowOf name rows row → IsRowOf name rest row) → IsRowOf name (r ∷ rows) row → IsRowOf name (r ∷ rest) row
  in_front rest so (inl h) = inl h
  in_front rest so (inr h) = inr (h.0, so h.1)

-- the row that was put is that of its name
pub renewed_row : (row : Row) (rows after : List Row) → Renews row rows after → IsRowOf row.name after row
renewed_row row [] after is = subst (λ (rs : List Row). IsRowOf row.name rs row) (sym is) (inl (refl, refl))
renewed_row row (r ∷ rows) after (inl h) = subst (λ (rs : List Row). IsRowOf row.name rs row) (sym h.1) (inl (refl, refl))
renewed_row row (r ∷ rows) after (inr h) = subst (λ (rs : List Row). IsRowOf row.name rs row) (sym h.1.1) (inr (h.0, renewed_row row rows h.1.0 h.1.2))

pub renewed_other : (new : Row) (name : List ℕ) (rows after : List Row) (row : Row) → new.name ≢ name → Renews new rows after → IsRowOf name rows row → IsRowOf name after row
renewed_other new name [] after row other renews named = absurd named
renewed_other new name (r ∷ rows) after row other (inl h) named =
    subst (λ (rs : List Row). IsRowOf name rs row) (sym h.1) (inr (other, behind name r rows row (λ same. other (sym h.0 ∙ same)) named))
renewed_other new name (r ∷ rows) after row other (inr h) named =
    subst (λ (rs : List Row). IsRowOf name rs row) (sym h.1.1) (in_front name r rows row h.1.0 (renewed_other new name rows h.1.0 row other h.1.2) named)

pub removed_other : (gone name : List ℕ) (rows after : List Row) (row : Row) → gone ≢ name → Removes gone rows after → IsRowOf name rows row → IsRowOf name after row
removed_other gone name [] after row other removes named = absurd named
removed_other gone name (r ∷ rows) after row other (inl h) named =
    subst (λ (rs : List Row). IsRowOf name rs row) (sym h.1) (behind name r rows row (λ same. other (sym h.0 ∙ same)) named)
removed_other gone name (r ∷ rows) after row other (inr h) named =
    subst (λ (rs : List Row). IsRowOf name rs row) (sym h.1.1) (in_front name r rows row h.1.0 (removed_other gone name rows h.1.0 row other h.1.2) named)

pub renamed_other : (old to name : List ℕ) (rows after : List Row) (row : Row) → old ≢ name → to ≢ name → Renames old to rows after → IsRowOf name rows row
    → IsRowOf name after row
renamed_other old to name [] after row other free renames named = absurd named
renamed_other old to name (r ∷ rows) after row other free (inl h) named =
    subst (λ (rs : List Row). IsRowOf name rs row) (sym h.1) (inr (free, behind name r rows row (λ same. other (sym h.0 ∙ same)) named))
renamed_other old to name (r ∷ rows) after row other free (inr h) named =
    subst (λ (rs : List Row). IsRowOf name rs row) (sym h.1.1) (in_front name r rows row h.1.0 (renamed_other old to name rows h.1.0 row other free h.1.2) named)

module _ (P : ℕ → Type 0) where
  abbrev Of : Row → Type 0
  Of row = P row.number

  abbrev Each : List Row → Type 0
  Each rows = All Of rows

  pub renewed_all : (new : Row) (rows after : List Row) → P new.number → Renews new rows after → Each rows → Each after
  renewed_all new [] after mine is all = subst Each (sym is) (All-cons Of new [] mine (All-nil Of))
  renewed_all new (r ∷ rows) after mine (inl h) all =
      subst Each (sym h.1) (All-cons Of new rows mine (All-tail Of r rows all))
  renewed_all new (r ∷ rows) after mine (inr h) all =
      subst Each (sym h.1.1)
      (All-cons Of r h.1.0 (All-head Of r rows all)
      (renewed_all new rows h.1.0 mine h.1.2 (All-tail Of r rows all)))

  removed_all : (gone : List ℕ) (rows after : List Row) → Removes gone rows after → Each rows → Each after
  removed_all gone [] after removes all = absurd removes
  removed_all gone (r ∷ rows) after (inl h) all = subst Each (sym h.1) (All-tail Of r rows all)
  removed_all gone (r ∷ rows) after (inr h) all =
      subst Each (sym h.1.1)
      (All-cons Of r h.1.0 (All-head Of r rows all)
      (removed_all gone rows h.1.0 h.1.2 (All-tail Of r rows all)))

  renamed_all : (old to : List ℕ) (rows after : List Row) → Renames old to rows after → Each rows → Each after
  renamed_all old to [] after renames all = absurd renames
  renamed_all old to (r ∷ rows) after (inl h) all =
      subst Each (sym h.1)
      (All-cons Of (record r { name = to }) rows (All-head Of r rows all)
      (All-tail Of r rows all))
  renamed_all old to (r ∷ rows) after (inr h) all =
      subst Each (sym h.1.1)
      (All-cons Of r h.1.0 (All-head Of r rows all)
      (renamed_all old to rows h.1.0 h.1.2 (All-tail Of r rows all)))

-- the number of what was put is in no row
pub renewed_new : (new : Row) (rows after : List Row) → All (λ (row : Row). row.number ≢ new.number) rows → Renews new rows after → HaveOwnNumbers rows → HaveOwnNumbers after
renewed_new new [] after none is own = subst HaveOwnNumbers (sym is) (All-nil (λ (row : Row). row.number ≢ new.number), tt)
renewed_new new (r ∷ rows) after none (inl h) own =
    subst HaveOwnNumbers (sym h.1) (All-tail (λ (row : Row). row.number ≢ new.number) r rows none, own.1)
renewed_new new (r ∷ rows) after none (inr h) own =
    let mine = All-head (λ (row : Row). row.number ≢ new.number) r rows none in
    subst HaveOwnNumbers (sym h.1.1) (
      renewed_all (λ n. n ≢ r.number) new rows h.1.0 (λ same. mine (sym same)) h.1.2 own.0,
      renewed_new new rows h.1.0 (All-tail (λ (row : Row). row.number ≢ new.number) r rows none) h.1.2 own.1,
    )

-- the number of what was put is that of its name's row
pub renewed_same : (new : Row) (rows after : List Row) (row : Row) → IsRowOf new.name rows row → row.number ≡ new.number → Renews new rows after → HaveOwnNumbers rows
    → HaveOwnNumbers after
renewed_same new [] after row named is renews own = absurd named
renewed_same new (r ∷ rows) after row named is (inl h) own =
    let here = one_row new.name (r ∷ rows) r row (inl (h.0, refl)) named in
    subst HaveOwnNumbers (sym h.1)
    (subst (λ (n : ℕ). All (λ (o : Row). o.number ≢ n) rows) (ap (λ (x : Row). x.number) here ∙ is) own.0, own.1)
renewed_same new (r ∷ rows) after row named is (inr h) own =
    let there = behind new.name r rows row h.0 named in
    subst HaveOwnNumbers (sym h.1.1) (
      renewed_all (λ n. n ≢ r.number) new rows h.1.0 (λ same. row_of_all (λ (o : Row). o.number ≢ r.number) new.name rows row own.0 there (is ∙ same)) h.1.2 own.0,
      renewed_same new rows h.1.0 row there is h.1.2 own.1,
    )

pub removed_own : (gone : List ℕ) (rows after : List Row) → Removes gone rows after → HaveOwnNumbers rows → HaveOwnNumbers after
removed_own gone [] after removes own = absurd removes
removed_own gone (r ∷ rows) after (inl h) own = subst HaveOwnNumbers (sym h.1) own.1
removed_own gone (r ∷ rows) after (inr h) own =
    subst HaveOwnNumbers (sym h.1.1) (removed_all (λ n. n ≢ r.number) gone rows h.1.0 h.1.2 own.0, removed_own gone rows h.1.0 h.1.2 own.1)

pub renamed_own : (old to : List ℕ) (rows after : List Row) → Renames old to rows after → HaveOwnNumbers rows → HaveOwnNumbers after
renamed_own old to [] after renames own = absurd renames
renamed_own old to (r ∷ rows) after (inl h) own = subst HaveOwnNumbers (sym h.1) own
renamed_own old to (r ∷ rows) after (inr h) own =
    subst HaveOwnNumbers (sym h.1.1) (renamed_all (λ n. n ≢ r.number) old to rows h.1.0 h.1.2 own.0, renamed_own old to rows h.1.0 h.1.2 own.1)
