-- A body that spells the rows that were noted goes on to spell them where one row is put with what is noted of it.
use Rattle.std.proofs.Common.{◌≡◌, ◌≢◌, refl, sym, ◌∙◌, ap, subst, ⊎_elim, ℕ, zero, suc, ◌+◌, ◌-◌, ◌*◌, ◌/◌, ◌%◌, ◌<◌, ◌≤◌, List, [], ◌∷◌, ◌++◌, map, length, take, drop, set, get_or, length-append, arith}
use Rattle.std.specs.Prelude.{slice_get, slice_index_or, Some}
use Rattle.std.proofs.lemmas.Bool.{cases_eq}
use Rattle.std.proofs.lemmas.List.{drop-drop, take_at, drop_at, length-map, length-set, get_or-set_same, get_or-set_other}
use Rattle.std.specs.List.{flat_map}
use Rattle.geometry.specs.declared.geometry.Geometry.{Geometry}
use Rattle.geometry.specs.declared.shape.Shape.{Shape}
use Rattle.geometry.specs.declared.owner.Summary.{Summary}
use Rattle.geometry.specs.Shape.{segment_blocks}
use Rattle.device.specs.Disk.{part}
use Rattle.image.specs.Pack.{body_bytes, entry_bytes, segment_bytes, summary_bytes}
use Rattle.image.specs.Image.{SegmentInfo}
use Rattle.image_law.specs.Parts.{Token, found, info, summaries_in}
use Rattle.nat.specs.Noted.{node_row, shard_row}
use Rattle.nat.specs.Shard.{ShardNodes}
use Rattle.pack_tables.proofs.Widths.{rows_long, summary_long, segment_long}
use Rattle.rights_books.specs.declared.claim.TakenNumber.{TakenNumber}
use Rattle.atomic_table.specs.Seated.{TableId}
use Rattle.rights_books.specs.declared.row_claim.Row.{Row}
use Rattle.rights_books.specs.RowAccounts.{RowView, AreBlank}
use Rattle.rights_books.specs.PartRow.{PartName, AreInOrder, name_of}
use Rattle.rights_books.specs.RowRules.{blank}
use Rattle.sit.specs.Segment.{Segment}
use Rattle.sit.specs.Noted.{segment_row}
use Rattle.checkpoint_image.specs.Cells.{segment_part, shard_part, token_of}
use Rattle.checkpoint_image.specs.Kept.{IsKeptBody, IsSegmentIn, IsEntryIn, IsSmallRow, token_in, entry_of, info_of, owners_of, row_at, row_in, info_bytes, owners_bytes, infos_at, owners_at}
use Rattle.packs_journal.specs.Places.{page_start, page_size}
use Rattle.packs_journal.specs.Pages.{has_page}
use Rattle.packs_journal.specs.declared.page_set.PageSet.{PageSet}
use Rattle.checkpoint_image.specs.Touched.{AreTouched}
use Rattle.checkpoint_image.specs.declared.touched_body.TouchedBody.{TouchedBody}
use Rattle.checkpoint_image.proofs.RowPlaces.{row_ends}

abbrev pub part_of : TableId → ℕ → PartName
part_of book number = record { book = book; number = number }

-- blank rows are those of parts 0, 1, 2 and so on, and each is blank
pub blank_order : (book : TableId) (parts : List RowView) → AreBlank book parts → AreInOrder book parts
blank_order book parts are k other below = ap name_of (are k (get_or parts k other) (there parts k below))
  where
    there : (xs : List RowView) (j : ℕ) → j < length xs → slice_get xs j ≡ Some (get_or xs j other)
    there [] j low = absurd (omega arith)
    there (v ∷ xs) zero low = refl
    there (v ∷ xs) (suc j) low = there xs j (omega arith)

blank_at : (parts : List RowView) (k : ℕ) → ((j : ℕ) (v : RowView) → slice_get parts j ≡ Some v → v.row ≡ blank) → row_at parts k ≡ blank
blank_at [] k are = refl
blank_at (v ∷ parts) zero are = are 0 v refl
blank_at (v ∷ parts) (suc k) are = blank_at parts k (λ j w at. are (suc j) w at)

pub blank_rows : (book : TableId) (parts : List RowView) → AreBlank book parts → (k : ℕ) → row_at parts k ≡ blank
blank_rows book parts are k = blank_at parts k (λ j v at. ap (λ (w : RowView). w.row) (are j v at))

-- where one account is set, its row is that of its part, and the others stay
pub row_other : (parts : List RowView) (k j : ℕ) (v : RowView) → j ≢ k → row_at (set parts k v) j ≡ row_at parts j
row_other [] k j v apart = refl
row_other (p ∷ parts) zero zero v apart = absurd (apart refl)
row_other (p ∷ parts) zero (suc j) v apart = refl
row_other (p ∷ parts) (suc k) zero v apart = refl
row_other (p ∷ parts) (suc k) (suc j) v apart = row_other parts k j v (λ same. apart (ap suc same))

pub row_here : (parts : List RowView) (k : ℕ) (v : RowView) → k < length parts → row_at (set parts k v) k ≡ v.row
row_here [] k v low = absurd (omega (arith, low))
row_here (p ∷ parts) zero v low = refl
row_here (p ∷ parts) (suc k) v low = row_here parts k v (omega (arith, low))

pub order_set : (book : TableId) (parts : List RowView) (k : ℕ) (v : RowView) → AreInOrder book parts → name_of v ≡ record { book = book; number = k } → AreInOrder book (set parts k v)
order_set book parts k v are is j other below =
    ⊎_elim
    (λ same. subst (λ (n : ℕ). name_of (get_or (set parts k v) n other) ≡ record { book = book; number = n }) (sym same) (ap name_of (get_or-set_same parts k v other (omega (arith, inside, same))) ∙ is))
    (λ apart. ap name_of (get_or-set_other parts k j v other apart) ∙ are j other inside)
    (cases_eq j k)
  where
    long : length (set parts k v) ≡ length parts
    long = length-set parts k v

    inside : j < length parts
    inside = omega (arith, below, long)

-- an item that is there lies within its list
pub got_below : {A : Type 0} (xs : List A) (k : ℕ) (x : A) → slice_get xs k ≡ Some x → k < length xs
got_below [] k x at = absurd cc
got_below (y ∷ xs) zero x at = omega arith
got_below (y ∷ xs) (suc k) x at = let there = got_below xs k x at in omega arith

-- the items up to one are noted, and then that one
pub noted_more : {A : Type 0} (row : A → Row) (place : ℕ → ℕ) (xs : List A) (was now : List RowView) (n : ℕ) (a : A) → slice_get xs n ≡ Some a → row_at now (place n) ≡ row a
    → ((k : ℕ) → k ≢ n → row_at now (place k) ≡ row_at was (place k)) → ((k : ℕ) (x : A) → k < n → slice_get xs k ≡ Some x → row_at was (place k) ≡ row x)
    → (k : ℕ) (x : A) → k < n + 1 → slice_get xs k ≡ Some x → row_at now (place k) ≡ row x
noted_more row place xs was now n a there here others before k x below at =
    ⊎_elim
    (λ same. subst (λ (j : ℕ). row_at now (place j) ≡ row x) (sym same) (here ∙ ap row (is_same (sym there ∙ ap (slice_get xs) (sym same) ∙ at))))
    (λ apart. others k apart ∙ before k x (omega (arith, below, apart)) at)
    (cases_eq k n)
  where
    is_same : Some a ≡ Some x → a ≡ x
    is_same is = cc

-- bytes behind the head, of bodies that have the same behind it
pub behind_head : (p n : ℕ) (old new : List ℕ) → 56 ≤ p → drop 56 new ≡ drop 56 old → part p n new ≡ part p n old
behind_head p n old new le same = ap (take n) (from new ∙ ap (drop (p - 56)) same ∙ sym (from old))
  where
    at : 56 + (p - 56) ≡ p
    at = omega (arith, le)

    from : (xs : List ℕ) → drop p xs ≡ drop (p - 56) (drop 56 xs)
    from xs = sym (drop-drop (p - 56) 56 xs ∙ ap (λ (m : ℕ). drop m xs) at)

-- another head in front of the same rows
pub head_kept : (geometry : Geometry) (parts : List RowView) (old new : List ℕ) → length new ≡ length old → drop 56 new ≡ drop 56 old → IsKeptBody geometry parts old → IsKeptBody geometry parts new
head_kept geometry parts old new long same was = record {
  long = long ∙ was.long;
  entries = λ k below. behind_head (56 + k * 8) 8 old new (omega arith) same ∙ was.entries k below;
  segments = λ k below.
      let here = was.segments k below in
      record {
        info = behind_head (infos_at geometry + k * info_bytes geometry.shape) (info_bytes geometry.shape) old new (omega arith) same ∙ here.info;
        owners = λ sized. behind_head (owners_at geometry + k * owners_bytes geometry.shape) (owners_bytes geometry.shape) old new (omega arith) same ∙ here.owners sized;
        small = here.small;
      };
}

-- and no page of it is touched
pub head_touched : (len : ℕ) (old new : TouchedBody) → new.touched ≡ old.touched → drop 56 new.bytes.items ≡ drop 56 old.bytes.items → AreTouched len old new
head_touched len old new pages same k below out =
    (ap (λ (p : PageSet). has_page p k) (sym pages) ∙ out, behind_head (56 + page_start len k) (page_size len k) old.bytes.items new.bytes.items (omega arith) same)

-- the tokens that a noted row tells are those of the shard
pub tokens_noted : (taken : List TakenNumber) → map token_in (map node_row taken) ≡ map token_of taken
tokens_noted [] = refl
tokens_noted (e ∷ taken) = ap (λ (rest : List Token). token_of e ∷ rest) (tokens_noted taken)

pub entry_noted : (s : ShardNodes) (number : ℕ) → entry_of (shard_row s.taken) number ≡ found number (shard_part s)
entry_noted s number = ap (found number) (tokens_noted s.taken)

-- a segment's row is cut where its entry of the segment information table ends
module _ (shape : Shape) (segment : Segment) (row : List ℕ) (is : row ≡ segment_bytes shape (info (segment_part segment)) ++ flat_map summary_bytes (summaries_in (segment_part segment))) where
  entry_long : length (segment_bytes shape (info (segment_part segment))) ≡ info_bytes shape
  entry_long = segment_long shape (info (segment_part segment))

  pub info_front : take (info_bytes shape) row ≡ segment_bytes shape (info_of (segment_row segment))
  info_front = ap (take (info_bytes shape)) is ∙ take_at (segment_bytes shape (info (segment_part segment))) _ (info_bytes shape) entry_long

  pub owners_behind : drop (info_bytes shape) row ≡ flat_map summary_bytes (owners_of (segment_row segment))
  owners_behind = ap (drop (info_bytes shape)) is ∙ drop_at (segment_bytes shape (info (segment_part segment))) _ (info_bytes shape) entry_long

  pub row_long : length segment.summaries ≡ segment_blocks shape → length row ≡ info_bytes shape + owners_bytes shape
  row_long sized =
      ap length is ∙ length-append (segment_bytes shape (info (segment_part segment))) _
      ∙ ap (λ (n : ℕ). n + length (flat_map summary_bytes (summaries_in (segment_part segment)))) entry_long
      ∙ ap (λ (n : ℕ). info_bytes shape + n) (rows_long summary_bytes 8 summary_long (summaries_in (segment_part segment)) ∙ ap (λ (n : ℕ). 8 * n) (length-map segment.summaries _ ∙ sized))

module _ (geometry : Geometry) (old new : List RowView) (body after : List ℕ) (was : IsKeptBody geometry old body) (at : ℕ)
    (others : (k : ℕ) → k ≢ at → row_at new k ≡ row_at old k) (long : length after ≡ length body) where
  -- one segment's row is put
  pub segment_kept : at < geometry.segments → IsSegmentIn geometry after at (row_at new at)
      → ((k : ℕ) → k < geometry.segments → k ≢ at → row_in (infos_at geometry) (info_bytes geometry.shape) k after ≡ row_in (infos_at geometry) (info_bytes geometry.shape) k body)
      → ((k : ℕ) → k < geometry.segments → k ≢ at → row_in (owners_at geometry) (owners_bytes geometry.shape) k after ≡ row_in (owners_at geometry) (owners_bytes geometry.shape) k body)
      → ((p n : ℕ) → p + n ≤ infos_at geometry → part p n after ≡ part p n body) → IsKeptBody geometry new after
  segment_kept within here infos owners before = record {
    long = long ∙ was.long;
    entries = λ k below.
        before (56 + k * 8) 8 (omega (arith, below)) ∙ was.entries k below
        ∙ sym (ap (λ row. entry_bytes (entry_of row (k + 1))) (others (geometry.segments + (k + 1) % 16) (λ same. absurd (omega (arith, same, within)))));
    segments = λ k below.
        ⊎_elim
        (λ same. subst (λ (j : ℕ). IsSegmentIn geometry after j (row_at new j)) (sym same) here)
        (λ apart.
        let there = was.segments k below in
        subst (IsSegmentIn geometry after k) (sym (others k apart))
        (record { info = infos k below apart ∙ there.info; owners = λ sized. owners k below apart ∙ there.owners sized; small = there.small }))
        (cases_eq k at);
  }

  -- the entries of one shard's numbers are put
  pub entries_kept : (number : ℕ) → number < 16 → at ≡ geometry.segments + number
      → ((k : ℕ) → k < geometry.nodes → (k + 1) % 16 ≡ number → row_in 56 8 k after ≡ entry_bytes (entry_of (row_at new at) (k + 1)))
      → ((k : ℕ) → k < geometry.nodes → (k + 1) % 16 ≢ number → row_in 56 8 k after ≡ row_in 56 8 k body)
      → ((p n : ℕ) → infos_at geometry ≤ p → part p n after ≡ part p n body) → IsKeptBody geometry new after
  entries_kept number one is own apart behind = record {
    long = long ∙ was.long;
    entries = λ k below.
        ⊎_elim
        (λ same. own k below same ∙ ap (λ (j : ℕ). entry_bytes (entry_of (row_at new j) (k + 1))) (is ∙ ap (λ (j : ℕ). geometry.segments + j) (sym same)))
        (λ other. apart k below other ∙ was.entries k below
        ∙ sym (ap (λ row. entry_bytes (entry_of row (k + 1))) (others (geometry.segments + (k + 1) % 16) (λ same. other (omega (arith, same, is))))))
        (cases_eq ((k + 1) % 16) number);
    segments = λ k below.
        let there = was.segments k below in
        subst (IsSegmentIn geometry after k) (sym (others k (λ same. absurd (omega (arith, same, is, below)))))
        (record {
          info = behind (infos_at geometry + k * info_bytes geometry.shape) (info_bytes geometry.shape) (omega arith) ∙ there.info;
          owners = λ sized. behind (owners_at geometry + k * owners_bytes geometry.shape) (owners_bytes geometry.shape) (omega arith) ∙ there.owners sized;
          small = there.small;
        });
  }
