-- An owner that is there counts as one valid bit, and a number with one entry at most is found as that entry: so the
-- rows tell what the segment and the shard have.
use Rattle.std.proofs.Common.{◌≡◌, ◌≢◌, refl, sym, ◌∙◌, ap, ℕ, ◌+◌, ◌<◌, ◌≤◌, ◌==◌, ◌⊎◌, inl, inr, Bool, true, false, List, [], ◌∷◌, map, length, if◌then◌else◌, fold, cond, eq-eqb, arith}
use Rattle.std.specs.Prelude.{Option, Some, None, count_by}
use Rattle.std.proofs.lemmas.Bool.Decides.{eqb_tells}
use Rattle.geometry.specs.declared.owner.Owner.{Owner}
use Rattle.geometry.specs.declared.owner.Summary.{Summary}
use Rattle.image.specs.Image.{SegmentInfo}
use Rattle.sit.specs.Segment.{Segment}
use Rattle.sit.specs.Summaries.{is_set, summary_in, count_of}
use Rattle.rights_books.specs.declared.claim.TakenNumber.{TakenNumber}
use Rattle.rights_books.specs.Lists.{times}
use Rattle.rights_books.specs.Sameness.{same_entry}
use Rattle.rights_books.proofs.Sameness.{entry_eq}
use Rattle.nat.specs.Taken.{entries_of}
use Rattle.image_law.specs.Parts.{is_named, info, found, summary_in as summary_at}
use Rattle.checkpoint_image.specs.Cells.{segment_part, token_of}

-- what stands for a block is said twice
pub rows_same : (xs : List (Option Owner)) → map summary_in xs ≡ map summary_at xs
rows_same [] = refl
rows_same (None ∷ xs) = ap (λ (l : List Summary). summary_at None ∷ l) (rows_same xs)
rows_same (Some owner ∷ xs) = ap (λ (l : List Summary). summary_at (Some owner) ∷ l) (rows_same xs)

-- which blocks somebody names is said twice
set_each : (xs : List (Option Owner)) → map is_set xs ≡ map is_named xs
set_each [] = refl
set_each (None ∷ xs) = ap (λ (bits : List Bool). false ∷ bits) (set_each xs)
set_each (Some owner ∷ xs) = ap (λ (bits : List Bool). true ∷ bits) (set_each xs)

fold_count : (a : ℕ) (xs : List (Option Owner)) → fold (λ a bit. a + cond bit 1 0) a (map is_named xs) ≡ a + count_of xs
fold_count a [] = omega arith
fold_count a (None ∷ xs) = fold_count (a + 0) xs ∙ omega arith
fold_count a (Some owner ∷ xs) = fold_count (a + 1) xs ∙ omega arith

pub named_count : (xs : List (Option Owner)) → count_by (λ bit. bit) (map is_named xs) ≡ count_of xs
named_count xs = fold_count 0 xs ∙ omega arith

-- the entry that is spelled of bits, with as many valid blocks as are counted
pub entry_same : (segment : Segment) (bits : List Bool) (valid mtime : ℕ) → bits ≡ map is_set segment.summaries → valid ≡ count_of segment.summaries → mtime ≡ segment.mtime
    → ◌≡◌ {A = SegmentInfo} (record { count = valid; mtime = mtime; bits = bits }) (info (segment_part segment))
entry_same segment bits valid mtime told count time =
    let counts = count ∙ sym (named_count segment.summaries) in
    let named = told ∙ set_each segment.summaries in
    λ i. record { count = counts i; mtime = time i; bits = named i }

abbrev of_number : ℕ → TakenNumber → ℕ
of_number number e = if e.number == number then 1 else 0

counts_one : (number : ℕ) (e : TakenNumber) → e.number ≡ number → of_number number e ≡ 1
counts_one number e is = rw (eq-eqb e.number number is) refl

-- an entry that is there is counted
counted : (number : ℕ) (e : TakenNumber) (es : List TakenNumber) → 0 < times same_entry e es → e.number ≡ number → 0 < entries_of number es
counted number e [] some is = absurd (omega arith)
counted number e (y ∷ es) some is = go (same_entry e y) refl some (λ more. counted number e es more is)
  where
    go : (b : Bool) → same_entry e y ≡ b → 0 < (if b then 1 else 0) + times same_entry e es → (0 < times same_entry e es → 0 < entries_of number es)
        → 0 < of_number number y + entries_of number es
    go true same few rest = let one = counts_one number y (sym (ap (λ (x : TakenNumber). x.number) (entry_eq e y same)) ∙ is) in omega arith
    go false same few rest = let more = rest (omega arith) in omega arith

-- what is found of a number that has one entry
pub found_entry : (number : ℕ) (e : TakenNumber) (es : List TakenNumber) → entries_of number es ≤ 1 → 0 < times same_entry e es → e.number ≡ number
    → found number (map token_of es) ≡ record { inode = e.inode; address = e.address }
found_entry number e [] single some is = absurd (omega arith)
found_entry number e (y ∷ es) single some is =
    go (same_entry e y) refl some (eqb_tells y.number number) (λ few more. found_entry number e es few more is)
  where
    go : (b : Bool) → same_entry e y ≡ b → 0 < (if b then 1 else 0) + times same_entry e es
        → ((y.number == number) ≡ true) × (y.number ≡ number) ⊎ ((y.number == number) ≡ false) × (y.number ≢ number)
        → (entries_of number es ≤ 1 → 0 < times same_entry e es → found number (map token_of es) ≡ record { inode = e.inode; address = e.address })
        → found number (map token_of (y ∷ es)) ≡ record { inode = e.inode; address = e.address }
    go true same few tells rest =
        let y_is = sym (entry_eq e y same) in
        let hit : (y.number == number) ≡ true = eq-eqb y.number number (ap (λ (x : TakenNumber). x.number) y_is ∙ is) in
        rw hit (ap (λ (x : TakenNumber). record { inode = x.inode; address = x.address }) y_is)
    go false same few (inl (t, here)) rest =
        let one = counts_one number y here in
        let more = counted number e es (omega arith) is in
        absurd (omega arith)
    go false same few (inr (t, apart)) rest =
        let none : of_number number y ≡ 0 = rw t refl in
        rw t (rest (omega arith) (omega arith))

pub found_free : (number : ℕ) (es : List TakenNumber) → entries_of number es ≡ 0 → record { inode = 0; address = 0 } ≡ found number (map token_of es)
found_free number [] none = refl
found_free number (y ∷ es) none =
    elim (eqb_tells y.number number) [
      | inl (t, here) ↦ let one = counts_one number y here in absurd (omega arith)
      | inr (t, apart) ↦ let zero_here : of_number number y ≡ 0 = rw t refl in rw t (found_free number es (omega arith))
    ]

pub count_most : (xs : List (Option Owner)) → count_of xs ≤ length xs
count_most [] = omega arith
count_most (None ∷ xs) = let there = count_most xs in omega arith
count_most (Some owner ∷ xs) = let there = count_most xs in omega arith
