-- A head: header and logs of a body, a map that says which copy of each page counts, and a journal of words that have changed since the pages were written (Rosenblum and Ousterhout 1991, checkpoint regions; the layout is this project's own).
use Rattle.std.specs.Prelude.{◌≡◌, ◌≤◌, ◌<◌, ℕ, zero, suc, ◌+◌, ◌-◌, ◌*◌, ◌/◌, ◌%◌, Bool, true, ◌&&◌, ◌||◌, ◌==◌, not, nat_lt, List, ◌++◌, length, take, drop, slice_index_or}
use Rattle.std.specs.Int.{bit_at}
use Rattle.device.specs.Disk.{part}
use Rattle.image.specs.Reading.{number_at}
use Rattle.packs_journal.specs.Places.{page_count, word_count, changes_at, changes_bytes, map_bytes, map_pages, most_changes}

-- the bytes of a head's map, and those of its journal; at 56 stands the number of the changes, and behind it are four zeros
abbrev pub map_of : List ℕ → List ℕ
map_of head = part 64 map_bytes head

abbrev pub changes_of : List ℕ → List ℕ
changes_of head = part changes_at changes_bytes head

-- which copy of page k counts: bit k of the map, the lowest bit of each byte first
abbrev pub copy_in : List ℕ → ℕ → ℕ
copy_in map k = bit_at (slice_index_or map (k / 8) 0) (k % 8)

-- the first n bits are clear where there is no such page
unfoldable pub names_pages : ℕ → List ℕ → ℕ → Bool
names_pages pages map zero = true
names_pages pages map (suc k) = names_pages pages map k && (nat_lt k pages || (copy_in map k == 0))

-- A change has twelve bytes: the number of a word of the rest, and the eight bytes that now stand there.
abbrev pub place_of : List ℕ → ℕ → ℕ
place_of changes n = number_at changes (12 * n)

abbrev pub word_of : List ℕ → ℕ → List ℕ
word_of changes n = part (12 * n + 4) 8 changes

-- the number behind that of the n-th change
unfoldable pub next_place : List ℕ → ℕ → ℕ
next_place changes zero = 0
next_place changes (suc n) = suc (place_of changes n)

-- the first n changes are of words that there are, each behind the one before
unfoldable pub rises : ℕ → List ℕ → ℕ → Bool
rises words changes zero = true
rises words changes (suc n) =
    rises words changes n && (not (nat_lt (place_of changes n) (next_place changes n)) && nat_lt (place_of changes n) words)

-- a word is put in its place, as far as the bytes go
abbrev pub with_word : ℕ → List ℕ → List ℕ → List ℕ
with_word place word bytes = take (8 * place) bytes ++ take (length bytes - 8 * place) word ++ drop (8 * place + 8) bytes

-- the first n changes are made
unfoldable pub patched : List ℕ → ℕ → List ℕ → List ℕ
patched changes zero bytes = bytes
patched changes (suc n) bytes = with_word (place_of changes n) (word_of changes n) (patched changes n bytes)

-- The 3,584 bytes are a head: four zeros behind the number of changes, which is at most 248, a map of pages that there are,
-- and changes of words that there are.
unfoldable pub is_head : ℕ → List ℕ → Bool
is_head len head =
    (number_at head 60 == 0)
    && (not (nat_lt most_changes (number_at head 56))
    && (names_pages (page_count len) (map_of head) map_pages
    && rises (word_count len) (changes_of head) (number_at head 56)))

-- the first n changes are of words that there are, each behind the one before, and the last one comes before word m
pub record AreRising (words : ℕ) (changes : List ℕ) (n m : ℕ) : Type 0 where
  pub rise : rises words changes n ≡ true
  pub end : next_place changes n ≤ m

-- the first n changes make the first m bytes those of another list, and leave the rest
abbrev pub IsPatchedTo : List ℕ → ℕ → List ℕ → List ℕ → ℕ → Type 0
IsPatchedTo changes n before after m = patched changes n before ≡ take m after ++ drop m before

-- two lists have these bytes as page k, which is shorter than others only where they end
pub record ArePages (k : ℕ) (old new before after : List ℕ) : Type 0 where
  pub long : length before ≡ length after
  pub was : part (4096 * k) (length new) before ≡ old
  pub is : part (4096 * k) (length new) after ≡ new
  pub within : 4096 * k + length new ≤ length after
  pub last : length new < 4096 → 4096 * k + length new ≡ length after
