-- The rows that bytes begin with are the only ones.
use Rattle.std.proofs.Common.{◌≡◌, ◌∙◌, ◌+◌, ◌++◌, ◌<◌, ◌≤◌, ◌^◌, ℕ, List, [], ◌∷◌, All, ap, ap₂, sym, subst, refl, length, take, drop, codes, arith}
use Rattle.std.proofs.lemmas.List.{append_assoc, append-nil, append_cancel_left, take_at, drop_at, take-append-drop, length-append, nil_from_length, flat_map_more}
use Rattle.std.proofs.lemmas.List.Elements.{All-head, All-tail, All-nil, All-push}
use Rattle.std.proofs.lemmas.Nat.{from_le_bytes-to_le_bytes_4, from_le_bytes-to_le_bytes_8}
use Rattle.std.specs.Int.{w32, w64, to_le_bytes, from_le_bytes}
use Rattle.std.specs.List.{flat_map}
use Rattle.named_folder.specs.Folder.{Row, IsRow, BeginsWith, row_bytes, folder_bytes}
use Rattle.named_folder.proofs.Fields.{first_is, second_is, third_is, from_20, take_split}

same_u32 : (m n : ℕ) → m < 2 ^ 32 → n < 2 ^ 32 → to_le_bytes w32 m ≡ to_le_bytes w32 n → m ≡ n
same_u32 m n one other same = sym (from_le_bytes-to_le_bytes_4 m one) ∙ ap (from_le_bytes w32) same ∙ from_le_bytes-to_le_bytes_4 n other

same_u64 : (m n : ℕ) → m < 2 ^ 64 → n < 2 ^ 64 → to_le_bytes w64 m ≡ to_le_bytes w64 n → m ≡ n
same_u64 m n one other same = sym (from_le_bytes-to_le_bytes_8 m one) ∙ ap (from_le_bytes w64) same ∙ from_le_bytes-to_le_bytes_8 n other

abbrev the_row : List ℕ → ℕ → ℕ → Row
the_row name number bytes = record { name = name; number = number; bytes = bytes }

pub same_row : (one other : Row) → one.name ≡ other.name → one.number ≡ other.number → one.bytes ≡ other.bytes → one ≡ other
same_row one other name number bytes =
    ap (λ n. the_row n one.number one.bytes) name
    ∙ ap (λ n. the_row other.name n one.bytes) number
    ∙ ap (λ n. the_row other.name other.number n) bytes

-- lists of one length in front of two lists that are the same
module _ (xs ys us vs : List ℕ) (long : length xs ≡ length ys) (same : xs ++ us ≡ ys ++ vs) where
  same_front : xs ≡ ys
  same_front = sym (take_at xs us (length xs) refl) ∙ ap (take (length xs)) same ∙ take_at ys vs (length xs) (sym long)

  same_behind : us ≡ vs
  same_behind = sym (drop_at xs us (length xs) refl) ∙ ap (drop (length xs)) same ∙ drop_at ys vs (length xs) (sym long)

-- what stands where in bytes that begin with a row
module _ (row : Row) (behind bytes : List ℕ) (is : bytes ≡ row_bytes row ++ behind) where
  number_here : take 4 bytes ≡ to_le_bytes w32 row.number
  number_here = first_is (to_le_bytes w32 row.number) (to_le_bytes w64 row.bytes) (to_le_bytes w64 (length row.name)) row.name behind bytes refl refl refl is

  bytes_here : take 8 (drop 4 bytes) ≡ to_le_bytes w64 row.bytes
  bytes_here = second_is (to_le_bytes w32 row.number) (to_le_bytes w64 row.bytes) (to_le_bytes w64 (length row.name)) row.name behind bytes refl refl refl is

  length_here : take 8 (drop 12 bytes) ≡ to_le_bytes w64 (length row.name)
  length_here = third_is (to_le_bytes w32 row.number) (to_le_bytes w64 row.bytes) (to_le_bytes w64 (length row.name)) row.name behind bytes refl refl refl is

  name_here : drop 20 bytes ≡ row.name ++ behind
  name_here = from_20 (to_le_bytes w32 row.number) (to_le_bytes w64 row.bytes) (to_le_bytes w64 (length row.name)) row.name behind bytes refl refl refl is

-- bytes that begin with two rows begin with one, and what is behind it is the same
module _ (one other : Row) (behind rest : List ℕ) (is_one : IsRow one) (is_other : IsRow other) (same : row_bytes one ++ behind ≡ row_bytes other ++ rest) where
  abbrev both : List ℕ
  both = row_bytes one ++ behind

  name_long : length one.name ≡ length other.name
  name_long = same_u64 (length one.name) (length other.name) is_one.length_fits is_other.length_fits (sym (length_here one behind both refl) ∙ length_here other rest both same)

  names : one.name ++ behind ≡ other.name ++ rest
  names = sym (name_here one behind both refl) ∙ name_here other rest both same

  row_unique : one ≡ other
  row_unique = same_row one other
      (same_front one.name other.name behind rest name_long names)
      (same_u32 one.number other.number is_one.number_fits is_other.number_fits (sym (number_here one behind both refl) ∙ number_here other rest both same))
      (same_u64 one.bytes other.bytes is_one.bytes_fit is_other.bytes_fit (sym (bytes_here one behind both refl) ∙ bytes_here other rest both same))

  behind_unique : behind ≡ rest
  behind_unique = same_behind one.name other.name behind rest name_long names

-- the rows go on behind some of them
record Rest (some rows : List Row) (left behind : List ℕ) : Type 0 where
  others : List Row
  whole : rows ≡ some ++ others
  spelled : left ≡ flat_map row_bytes others ++ behind

split_rows : (some rows : List Row) (left behind : List ℕ) → All IsRow some → All IsRow rows → length some ≤ length rows
    → flat_map row_bytes some ++ left ≡ flat_map row_bytes rows ++ behind → Rest some rows left behind
split_rows [] rows left behind all others few same = record { others = rows; whole = refl; spelled = same }
split_rows (e ∷ some) [] left behind all others few same = absurd (omega arith)
split_rows (e ∷ some) (r ∷ rows) left behind all others few same =
    let here : row_bytes e ++ (flat_map row_bytes some ++ left) ≡ row_bytes r ++ (flat_map row_bytes rows ++ behind)
    = sym (append_assoc (row_bytes e) (flat_map row_bytes some) left) ∙ same ∙ append_assoc (row_bytes r) (flat_map row_bytes rows) behind in
    let one = All-head IsRow e some all in
    let other = All-head IsRow r rows others in
    let fewer : length some ≤ length rows = omega arith in
    let rest = split_rows some rows left behind (All-tail IsRow e some all) (All-tail IsRow r rows others) fewer
    (behind_unique e r (flat_map row_bytes some ++ left) (flat_map row_bytes rows ++ behind) one other here) in
    record {
      others = rest.others;
      whole = ap₂ (λ (z : Row) (zs : List Row). z ∷ zs) (sym (row_unique e r (flat_map row_bytes some ++ left) (flat_map row_bytes rows ++ behind) one other here)) rest.whole;
      spelled = rest.spelled;
    }

abbrev pub head_bytes : ℕ → List ℕ
head_bytes count = codes "RUSZDIR1" ++ to_le_bytes w64 count

-- some rows of so many are spelled in the first bytes
pub record Begun (bytes : List ℕ) (at count : ℕ) (some : List Row) : Type 0 where
  pub are_rows : All IsRow some
  pub within : at ≤ length bytes
  pub spelled : take at bytes ≡ head_bytes count ++ flat_map row_bytes some

pub begun_start : (bytes : List ℕ) (count : ℕ) → 16 ≤ length bytes → take 8 bytes ≡ codes "RUSZDIR1" → to_le_bytes w64 count ≡ take 8 (drop 8 bytes) → Begun bytes 16 count []
begun_start bytes count long mark number = record {
  are_rows = All-nil IsRow;
  within = long;
  spelled = take_split 8 8 bytes ∙ ap₂ (λ (ys zs : List ℕ). ys ++ zs) mark (sym number) ∙ sym (append-nil (head_bytes count));
}

pub begun_more : (bytes : List ℕ) (at next count : ℕ) (some : List Row) (row : Row) → Begun bytes at count some → IsRow row → next ≤ length bytes
    → take next bytes ≡ take at bytes ++ row_bytes row → Begun bytes next count (some ++ row ∷ [])
begun_more bytes at next count some row begun is_row within spelled = record {
  are_rows = All-push IsRow some row begun.are_rows is_row;
  within = within;
  spelled = spelled ∙ ap (λ ys. ys ++ row_bytes row) begun.spelled ∙ flat_map_more row_bytes (head_bytes count) some row;
}

pub begun_all : (bytes : List ℕ) (at count : ℕ) (rows : List Row) → Begun bytes at count rows → length rows ≡ count → count < 2 ^ 64 → BeginsWith rows bytes
begun_all bytes at count rows begun many fits = record {
  are_rows = begun.are_rows;
  few = omega arith;
  behind = drop at bytes;
  spelled = sym (take-append-drop at bytes) ∙ ap (λ ys. ys ++ drop at bytes) (begun.spelled ∙ ap (λ n. head_bytes n ++ flat_map row_bytes rows) (sym many));
}

-- the rows that bytes begin with, beside some of so many that are spelled there
module _ (bytes : List ℕ) (at count : ℕ) (some rows : List Row) (begun : Begun bytes at count some) (fits : count < 2 ^ 64) (few : length some ≤ count) (with_rows : BeginsWith rows bytes) where
  both_ways : head_bytes count ++ (flat_map row_bytes some ++ drop at bytes) ≡ head_bytes (length rows) ++ (flat_map row_bytes rows ++ with_rows.behind)
  both_ways =
      sym (append_assoc (head_bytes count) (flat_map row_bytes some) (drop at bytes))
      ∙ ap (λ ys. ys ++ drop at bytes) (sym begun.spelled)
      ∙ take-append-drop at bytes
      ∙ with_rows.spelled
      ∙ append_assoc (head_bytes (length rows)) (flat_map row_bytes rows) with_rows.behind

  heads : head_bytes count ≡ head_bytes (length rows)
  heads = same_front (head_bytes count) (head_bytes (length rows)) (flat_map row_bytes some ++ drop at bytes) (flat_map row_bytes rows ++ with_rows.behind) refl both_ways

  as_many : count ≡ length rows
  as_many = same_u64 count (length rows) fits with_rows.few (append_cancel_left (codes "RUSZDIR1") (to_le_bytes w64 count) (to_le_bytes w64 (length rows)) heads)

  rest_of : Rest some rows (drop at bytes) with_rows.behind
  rest_of =
      let enough : length some ≤ length rows = let many = as_many in omega arith in
      split_rows some rows (drop at bytes) with_rows.behind begun.are_rows with_rows.are_rows enough
      (same_behind (head_bytes count) (head_bytes (length rows)) (flat_map row_bytes some ++ drop at bytes) (flat_map row_bytes rows ++ with_rows.behind) refl both_ways)

-- the rows are not those that are there and another behind them, where none begins there
no_row : (others rows some : List Row) (left behind : List ℕ) → All IsRow rows → rows ≡ some ++ others → length some < length rows
    → left ≡ flat_map row_bytes others ++ behind → ((row : Row) (rest : List ℕ) → IsRow row → left ≡ row_bytes row ++ rest → ⊥) → ⊥
no_row [] rows some left behind all whole fewer spelled none =
    let long = ap length (whole ∙ append-nil some) in absurd (omega arith)
no_row (r ∷ others) rows some left behind all whole fewer spelled none =
    none r (flat_map row_bytes others ++ behind) (is_behind some r others (subst (All IsRow) whole all)) (spelled ∙ append_assoc (row_bytes r) (flat_map row_bytes others) behind)
  where
    is_behind : (some : List Row) (r : Row) (others : List Row) → All IsRow (some ++ r ∷ others) → IsRow r
    is_behind [] r others all = All-head IsRow r others all
    is_behind (e ∷ some) r others all = is_behind some r others (All-tail IsRow e (some ++ r ∷ others) all)

pub none_here : (bytes : List ℕ) (at count : ℕ) (some rows : List Row) → Begun bytes at count some → count < 2 ^ 64 → length some < count
    → ((row : Row) (rest : List ℕ) → IsRow row → drop at bytes ≡ row_bytes row ++ rest → ⊥) → BeginsWith rows bytes → ⊥
none_here bytes at count some rows begun fits few none with_rows =
    let at_most : length some ≤ count = omega arith in
    let rest = rest_of bytes at count some rows begun fits at_most with_rows in
    let many = as_many bytes at count some rows begun fits at_most with_rows in
    let fewer : length some < length rows = omega arith in
    no_row rest.others rows some (drop at bytes) with_rows.behind with_rows.are_rows rest.whole fewer rest.spelled none

pub rows_unique : (rows others : List Row) (bytes : List ℕ) → BeginsWith rows bytes → BeginsWith others bytes → rows ≡ others
rows_unique rows others bytes one other =
    let begun : Begun bytes (length (folder_bytes rows)) (length rows) rows = record {
      are_rows = one.are_rows;
      within = let long = ap length one.spelled in let sum = length-append (folder_bytes rows) one.behind in omega arith;
      spelled = ap (take (length (folder_bytes rows))) one.spelled ∙ take_at (folder_bytes rows) one.behind (length (folder_bytes rows)) refl;
    } in
    let all : length rows ≤ length rows = omega arith in
    let rest = rest_of bytes (length (folder_bytes rows)) (length rows) rows others begun one.few all other in
    let many = as_many bytes (length (folder_bytes rows)) (length rows) rows others begun one.few all other in
    let sum : length others ≡ length rows + length rest.others = ap length rest.whole ∙ length-append rows rest.others in
    let none : length rest.others ≡ 0 = omega arith in
    sym (rest.whole ∙ ap (λ zs. rows ++ zs) (nil_from_length rest.others none) ∙ append-nil rows)
