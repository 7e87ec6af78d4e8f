-- A row is read back where it was spelled, and the next one stands its width behind it: so by induction all rows are,
-- whatever stands before and behind them.
use Rattle.std.proofs.Common.{◌≡◌, refl, sym, ◌∙◌, ap, ℕ, zero, suc, ◌+◌, ◌-◌, ◌*◌, ◌/◌, ◌%◌, ◌^◌, ◌<◌, Bool, true, false, eqb, Option, Some, None, List, [], ◌∷◌, ◌++◌, length, take, drop, get_or, arith, append_assoc, length-append, length-drop, take-append-drop}
use Rattle.std.specs.Prelude.{All, IfSome, if◌then◌else◌}
use Rattle.std.specs.List.{flat_map}
use Rattle.std.proofs.lemmas.List.{get_or_at, nil_from_length, length-take-le}
use Rattle.std.proofs.lemmas.List.Elements.{All-head, All-tail}
use Rattle.std.proofs.lemmas.Bool.{ne_eqb}
use Rattle.byteorder.specs.Endian.{little_bytes, little_from}
use Rattle.byteorder.specs.Numbers.{little_from-cons, little_number-reads_back}
use Rattle.geometry.specs.declared.shape.Shape.{Shape}
use Rattle.geometry.specs.declared.shape.Shape.TheVariants.{Tiny, Kernel}
use Rattle.geometry.specs.declared.owner.Summary.{Summary}
use Rattle.geometry.specs.Shape.{segment_blocks}
use Rattle.image.specs.declared.image.NodeEntry.{NodeEntry}
use Rattle.image.specs.declared.image.LogHead.{LogHead}
use Rattle.image.specs.Image.{SegmentInfo}
use Rattle.image.specs.Node.{numbers}
use Rattle.image.specs.Pack.{log_bytes, entry_bytes, segment_bytes, summary_bytes, bits_number, bitmap}
use Rattle.image.specs.Reading.{number_at, numbers_at, read_places, read_table, read_segments, read_summaries, read_bitmap, number_bits}
use Rattle.image.proofs.RoundTrip.{number_there, numbers_there}
use Rattle.pack_tables.specs.Grammar.{IsPlaceRow, IsEntryRow, IsSegmentRow, IsSummaryRow}
use Rattle.pack_tables.proofs.Widths.{log_long, entry_long, summary_long, segment_long}

-- a reader that goes over rows of one width, item by item
pub record ReadsRows {X : Type 0} (f : X → List ℕ) (P : X → Type 0) (w : ℕ) (item : List ℕ → ℕ → X) (reader : List ℕ → ℕ → ℕ → List X) : Type 0 where
  pub wide : (x : X) → length (f x) ≡ w
  pub none : (bytes : List ℕ) (place : ℕ) → reader bytes place 0 ≡ []
  pub more : (bytes : List ℕ) (place n : ℕ) → reader bytes place (suc n) ≡ item bytes place ∷ reader bytes (place + w) n
  pub there : (front rest : List ℕ) (x : X) → P x → item (front ++ (f x ++ rest)) (length front) ≡ x

pub rows_there : {X : Type 0} (f : X → List ℕ) (P : X → Type 0) (w : ℕ) (item : List ℕ → ℕ → X) (reader : List ℕ → ℕ → ℕ → List X)
    → ReadsRows f P w item reader → (front rest : List ℕ) (xs : List X) → All P xs → reader (front ++ (flat_map f xs ++ rest)) (length front) (length xs) ≡ xs
rows_there f P w item reader r front rest [] all = r.none _ _
rows_there f P w item reader r front rest (x ∷ xs) all =
    let body = front ++ (flat_map f (x ∷ xs) ++ rest) in
    let whole : body ≡ front ++ (f x ++ (flat_map f xs ++ rest)) = ap (λ t. front ++ t) (append_assoc (f x) (flat_map f xs) rest) in
    let moved : body ≡ (front ++ f x) ++ (flat_map f xs ++ rest) = whole ∙ sym (append_assoc front (f x) (flat_map f xs ++ rest)) in
    let on : length (front ++ f x) ≡ length front + w = length-append front (f x) ∙ ap (λ n. length front + n) (r.wide x) in
    let head : item body (length front) ≡ x
    = ap (λ b. item b (length front)) whole ∙ r.there front (flat_map f xs ++ rest) x (All-head P x xs all) in
    let tail : reader body (length front + w) (length xs) ≡ xs
    = ap (λ b. reader b (length front + w) (length xs)) moved
    ∙ ap (λ p. reader ((front ++ f x) ++ (flat_map f xs ++ rest)) p (length xs)) (sym on)
    ∙ rows_there f P w item reader r (front ++ f x) rest xs (All-tail P x xs all) in
    r.more body (length front) (length xs) ∙ ap (λ h. h ∷ reader body (length front + w) (length xs)) head ∙ ap (λ t. x ∷ t) tail

pub pair_there : (front rest : List ℕ) (a b : ℕ) → a < 2 ^ 32 → b < 2 ^ 32
    → (number_at (front ++ (numbers (a ∷ b ∷ []) ++ rest)) (length front) ≡ a) × (number_at (front ++ (numbers (a ∷ b ∷ []) ++ rest)) (length front + 4) ≡ b)
pair_there front rest a b p q =
    let both : numbers_at (front ++ (numbers (a ∷ b ∷ []) ++ rest)) (length front) 2 ≡ a ∷ b ∷ []
    = numbers_there front (a ∷ b ∷ []) rest two in
    (cc, cc)
  where
    two : All (λ x. x < 2 ^ 32) (a ∷ b ∷ [])
    two zero d below = p
    two (suc zero) d below = q
    two (suc (suc k)) d below = absurd (omega arith)

place_item : List ℕ → ℕ → Option LogHead
place_item body place =
    if eqb (number_at body place) (2 ^ 32 - 1) then None
    else Some (record { segment = number_at body place; next = number_at body (place + 4) })

place_there : (front rest : List ℕ) (log : Option LogHead) → IfSome log IsPlaceRow → place_item (front ++ (log_bytes log ++ rest)) (length front) ≡ log
unfolding place_item
place_there front rest None fits = rw ((pair_there front rest (2 ^ 32 - 1) 0 (omega arith) (omega arith)).0) refl
place_there front rest (Some place) fits =
    let p = pair_there front rest place.segment place.next (omega (arith, fits.0)) fits.1 in
    let low = fits.0 in
    let other : eqb place.segment (2 ^ 32 - 1) ≡ false = ne_eqb place.segment (2 ^ 32 - 1) (λ e. omega arith) in
    rw (p.0, p.1, other) refl

pub places_there : (front rest : List ℕ) (logs : List (Option LogHead)) → All (λ log. IfSome log IsPlaceRow) logs
    → read_places (front ++ (flat_map log_bytes logs ++ rest)) (length front) (length logs) ≡ logs
unfolding place_item
places_there =
    rows_there log_bytes (λ log. IfSome log IsPlaceRow) 8 place_item read_places
    (record { wide = log_long; none = λ bytes place. refl; more = λ bytes place n. refl; there = place_there })

pub table_there : (front rest : List ℕ) (entries : List NodeEntry) → All IsEntryRow entries
    → read_table (front ++ (flat_map entry_bytes entries ++ rest)) (length front) (length entries) ≡ entries
table_there =
    rows_there entry_bytes IsEntryRow 8 (λ body place. record { inode = number_at body place; address = number_at body (place + 4) }) read_table
    (record {
      wide = entry_long;
      none = λ bytes place. refl;
      more = λ bytes place n. refl;
      there = λ front rest entry fits. let p = pair_there front rest entry.inode entry.address fits.0 fits.1 in rw (p.0, p.1) refl;
    })

pub summaries_there : (front rest : List ℕ) (summaries : List Summary) → All IsSummaryRow summaries
    → read_summaries (front ++ (flat_map summary_bytes summaries ++ rest)) (length front) (length summaries) ≡ summaries
summaries_there =
    rows_there summary_bytes IsSummaryRow 8 (λ body place. record { nid = number_at body place; slot = number_at body (place + 4) }) read_summaries
    (record {
      wide = summary_long;
      none = λ bytes place. refl;
      more = λ bytes place n. refl;
      there = λ front rest summary fits. let p = pair_there front rest summary.nid summary.slot fits.0 fits.1 in rw (p.0, p.1) refl;
    })

at_place : (front rest : List ℕ) (n : ℕ) → little_from (length front) n (front ++ rest) ≡ little_from 0 n rest
at_place [] rest n = refl
at_place (x ∷ front) rest n = little_from-cons (length front) n x (front ++ rest) ∙ at_place front rest n

bit_back : (t : Bool) (rest : List Bool) → (eqb (bits_number (t ∷ rest) % 2) 1 ≡ t) × (bits_number (t ∷ rest) / 2 ≡ bits_number rest)
bit_back true rest =
    let one : (1 + 2 * bits_number rest) % 2 ≡ 1 = omega arith in
    (rw one refl, omega arith)
bit_back false rest =
    let none : 2 * bits_number rest % 2 ≡ 0 = omega arith in
    (rw none refl, omega arith)

bits_of_number : (bits : List Bool) → number_bits (length bits) (bits_number bits) ≡ bits
bits_of_number [] = refl
bits_of_number (t ∷ rest) = rw ((bit_back t rest).0, (bit_back t rest).1, bits_of_number rest) refl

eight_back : (bits : List Bool) → length bits ≡ 8 → number_bits 8 (bits_number bits) ≡ bits
eight_back bits long = ap (λ n. number_bits n (bits_number bits)) (sym long) ∙ bits_of_number bits

bitmap_there : (front rest : List ℕ) (n : ℕ) (bits : List Bool) → length bits ≡ 8 * n → read_bitmap (front ++ (bitmap n bits ++ rest)) (length front) n ≡ bits
bitmap_there front rest zero bits long = sym (nil_from_length bits (omega arith))
bitmap_there front rest (suc n) bits long =
    let byte = bits_number (take 8 bits) in
    let body = front ++ (byte ∷ (bitmap n (drop 8 bits) ++ rest)) in
    let here : get_or body (length front) 0 ≡ byte = get_or_at front byte (bitmap n (drop 8 bits) ++ rest) 0 (length front) refl in
    let moved : body ≡ (front ++ byte ∷ []) ++ (bitmap n (drop 8 bits) ++ rest) = sym (append_assoc front (byte ∷ []) (bitmap n (drop 8 bits) ++ rest)) in
    let on : length (front ++ byte ∷ []) ≡ length front + 1 = length-append front (byte ∷ []) in
    let tail : read_bitmap body (length front + 1) n ≡ drop 8 bits
    = ap (λ b. read_bitmap b (length front + 1) n) moved
    ∙ ap (λ p. read_bitmap ((front ++ byte ∷ []) ++ (bitmap n (drop 8 bits) ++ rest)) p n) (sym on)
    ∙ bitmap_there (front ++ byte ∷ []) rest n (drop 8 bits) (omega (arith, length-drop 8 bits)) in
    ap (λ b. number_bits 8 b ++ read_bitmap body (length front + 1) n) here
    ∙ ap (λ e. e ++ read_bitmap body (length front + 1) n) (eight_back (take 8 bits) (length-take-le 8 bits (omega arith)))
    ∙ ap (λ t. take 8 bits ++ t) tail ∙ take-append-drop 8 bits

segment_item : Shape → List ℕ → ℕ → SegmentInfo
segment_item shape body place = record {
  count = number_at body place;
  mtime = little_from (place + 4) 8 body;
  bits = read_bitmap body (place + 12) (segment_blocks shape / 8);
}

eighths : (shape : Shape) → segment_blocks shape ≡ 8 * (segment_blocks shape / 8)
eighths Tiny = refl
eighths Kernel = refl

segment_there : (shape : Shape) (front rest : List ℕ) (info : SegmentInfo) → IsSegmentRow shape info
    → segment_item shape (front ++ (segment_bytes shape info ++ rest)) (length front) ≡ info
unfolding segment_item
segment_there shape front rest info fits =
    let bits = bitmap (segment_blocks shape / 8) info.bits in
    let body = front ++ (segment_bytes shape info ++ rest) in
    let a : number_at body (length front) ≡ info.count = number_there front (little_bytes 8 info.mtime ++ bits ++ rest) info.count fits.0 in
    let first = front ++ little_bytes 4 info.count in
    let moved : body ≡ first ++ (little_bytes 8 info.mtime ++ (bits ++ rest)) = sym (append_assoc front (little_bytes 4 info.count) (little_bytes 8 info.mtime ++ (bits ++ rest))) in
    let four : length first ≡ length front + 4 = length-append front (little_bytes 4 info.count) in
    let b : little_from (length front + 4) 8 body ≡ info.mtime
    = ap (λ p. little_from p 8 body) (sym four) ∙ ap (λ t. little_from (length first) 8 t) moved
    ∙ at_place first (little_bytes 8 info.mtime ++ (bits ++ rest)) 8
    ∙ little_number-reads_back 8 info.mtime (bits ++ rest) fits.1 in
    let second = first ++ little_bytes 8 info.mtime in
    let again : body ≡ second ++ (bits ++ rest) = moved ∙ sym (append_assoc first (little_bytes 8 info.mtime) (bits ++ rest)) in
    let twelve : length second ≡ length front + 12 = length-append first (little_bytes 8 info.mtime) ∙ omega (arith, four) in
    let c : read_bitmap body (length front + 12) (segment_blocks shape / 8) ≡ info.bits
    = ap (λ p. read_bitmap body p (segment_blocks shape / 8)) (sym twelve)
    ∙ ap (λ t. read_bitmap t (length second) (segment_blocks shape / 8)) again
    ∙ bitmap_there second rest (segment_blocks shape / 8) info.bits (fits.2 ∙ eighths shape) in
    rw (a, b, c) refl

pub segments_there : (shape : Shape) (front rest : List ℕ) (segments : List SegmentInfo) → All (IsSegmentRow shape) segments
    → read_segments shape (front ++ (flat_map (segment_bytes shape) segments ++ rest)) (length front) (length segments) ≡ segments
unfolding segment_item
segments_there shape =
    rows_there (segment_bytes shape) (IsSegmentRow shape) (12 + segment_blocks shape / 8) (segment_item shape) (read_segments shape)
    (record { wide = segment_long shape; none = λ bytes place. refl; more = λ bytes place n. ap (λ p. segment_item shape bytes place ∷ read_segments shape bytes p n) (omega arith); there = segment_there shape })
