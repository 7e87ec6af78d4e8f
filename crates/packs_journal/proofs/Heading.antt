-- What was written of a head is read back as far as it goes, which is where its changes end: so the pack of its slot is the
-- body that it was spelled for.
use Rattle.std.proofs.Common.{◌≡◌, sym, ◌∙◌, ap, subst, inr, ℕ, ◌+◌, ◌*◌, ◌≤◌, true, List, [], ◌++◌, length, take, drop, arith}
use Rattle.std.specs.Prelude.{if◌then◌else◌}
use Rattle.std.proofs.lemmas.List.{take-append-drop, take-take, length-take-le}
use Rattle.device.specs.Disk.{part, Holds, Torn}
use Rattle.device.proofs.Ranges.{holds_part, holds_torn}
use Rattle.image.specs.Reading.{number_at}
use Rattle.packs_journal.specs.Places.{head_at, page_count, page_at, page_size, word_count, changes_at, changes_bytes, head_bytes, map_bytes, map_pages, most_changes}
use Rattle.packs_journal.specs.Journal.{map_of, changes_of, copy_in, names_pages, rises, patched, is_head}
use Rattle.packs_journal.specs.Reading.{head_in, gathered, rest_by, assembled}
use Rattle.packs_journal.proofs.Pieces.{number_same, part_same, take_less}
use Rattle.packs_journal.proofs.Rising.{rises_same, patched_same}
use Rattle.packs_journal.proofs.Gathering.{gathered_same}
use Rattle.packs_journal.proofs.Heads.{head_by}
use Rattle.packs_journal.proofs.Beside.{apart_same}

-- bytes that begin as a head was spelled, as far as its n changes
module _ (len n : ℕ) (map bytes body spelled head : List ℕ) (few : n ≤ most_changes) (same : take (changes_at + 12 * n) head ≡ take (changes_at + 12 * n) spelled)
    (front : take 56 spelled ≡ take 56 body) (count : number_at spelled 56 ≡ n) (zeros : number_at spelled 60 ≡ 0) (mapped : map_of spelled ≡ map) (changes : changes_of spelled ≡ bytes) where
  pub read_front : take 56 head ≡ take 56 body
  read_front = take_less 56 (changes_at + 12 * n) head spelled (omega arith) same ∙ front

  pub read_count : number_at head 56 ≡ n
  read_count = number_same 56 (changes_at + 12 * n) head spelled (omega arith) same ∙ count

  read_zeros : number_at head 60 ≡ 0
  read_zeros = number_same 60 (changes_at + 12 * n) head spelled (omega arith) same ∙ zeros

  pub read_map : map_of head ≡ map
  read_map = part_same 64 map_bytes (changes_at + 12 * n) head spelled (omega arith) same ∙ mapped

  read_changes : take (12 * n) (changes_of head) ≡ take (12 * n) bytes
  read_changes =
      take-take (12 * n) changes_bytes (drop changes_at head) (omega (arith, few)) ∙ part_same changes_at (12 * n) (changes_at + 12 * n) head spelled (omega arith) same
      ∙ sym (take-take (12 * n) changes_bytes (drop changes_at spelled) (omega (arith, few))) ∙ ap (take (12 * n)) changes

  pub read_head : names_pages (page_count len) map map_pages ≡ true → rises (word_count len) bytes n ≡ true → is_head len head ≡ true
  read_head named rising =
      head_by len head read_zeros (omega (arith, read_count, few)) (ap (λ (m : List ℕ). names_pages (page_count len) m map_pages) read_map ∙ named)
      ∙ ap (rises (word_count len) (changes_of head)) read_count ∙ rises_same (changes_of head) bytes (word_count len) n read_changes ∙ rising

  pub read_rest : (area rest : List ℕ) → is_head len head ≡ true → gathered len (map_of head) (page_count len) area ≡ gathered len map (page_count len) area
      → patched bytes n (gathered len map (page_count len) area) ≡ rest → rest_by len head area ≡ rest
  read_rest area rest has pages is =
      ap (λ b. if b then patched (changes_of head) (number_at head 56) (gathered len (map_of head) (page_count len) area) else []) has
      ∙ ap (λ (m : ℕ). patched (changes_of head) m (gathered len (map_of head) (page_count len) area)) read_count
      ∙ ap (patched (changes_of head) n) pages
      ∙ patched_same (changes_of head) bytes n (gathered len map (page_count len) area) read_changes ∙ is

-- an area in which such bytes were put as the head of a slot
module _ (len slot n : ℕ) (map bytes body spelled c d : List ℕ) (le : slot ≤ 1) (few : n ≤ most_changes) (long : length spelled ≡ head_bytes) (within : head_at slot + head_bytes ≤ length c)
    (front : take 56 spelled ≡ take 56 body) (count : number_at spelled 56 ≡ n) (zeros : number_at spelled 60 ≡ 0) (mapped : map_of spelled ≡ map) (changes : changes_of spelled ≡ bytes)
    (holds : Holds c (head_at slot) (take (changes_at + 12 * n) spelled) d) where
  written : length (take (changes_at + 12 * n) spelled) ≡ changes_at + 12 * n
  written = length-take-le (changes_at + 12 * n) spelled (omega (arith, long, few))

  torn : Torn (head_at slot) (changes_at + 12 * n) c d
  torn = subst (λ (m : ℕ). Torn (head_at slot) m c d) written (holds_torn (head_at slot) (take (changes_at + 12 * n) spelled) c d (omega (arith, within, written, few)) holds)

  same : take (changes_at + 12 * n) (head_in slot d) ≡ take (changes_at + 12 * n) spelled
  same =
      take-take (changes_at + 12 * n) head_bytes (drop (head_at slot) d) (omega (arith, few))
      ∙ ap (λ (m : ℕ). part (head_at slot) m d) (sym written) ∙ holds_part (head_at slot) (take (changes_at + 12 * n) spelled) c d (omega (arith, within, written, few)) holds

  pages_stay : (k a : ℕ) → head_at slot + (changes_at + 12 * n) ≤ page_at k a
  pages_stay k a = omega (arith, le, few)

  gathered_stay : gathered len map (page_count len) d ≡ gathered len map (page_count len) c
  gathered_stay = gathered_same len map (page_count len) c d (λ k below. apart_same (head_at slot) (changes_at + 12 * n) (page_at k (copy_in map k)) (page_size len k) c d (inr (pages_stay k (copy_in map k))) torn)

  pub head_written : names_pages (page_count len) map map_pages ≡ true → rises (word_count len) bytes n ≡ true → is_head len (head_in slot d) ≡ true
  head_written named rising = read_head len n map bytes body spelled (head_in slot d) few same front count zeros mapped changes named rising

  pub map_written : map_of (head_in slot d) ≡ map
  map_written = read_map len n map bytes body spelled (head_in slot d) few same front count zeros mapped changes

  pub body_written : names_pages (page_count len) map map_pages ≡ true → rises (word_count len) bytes n ≡ true → patched bytes n (gathered len map (page_count len) c) ≡ drop 56 body → assembled len slot d ≡ body
  unfolding assembled
  body_written named rising is =
      let head = head_in slot d in
      ap (λ l. l ++ rest_by len head d) (read_front len n map bytes body spelled head few same front count zeros mapped changes)
      ∙ ap (λ l. take 56 body ++ l) (read_rest len n map bytes body spelled head few same front count zeros mapped changes d (drop 56 body) (head_written named rising)
      (ap (λ (m : List ℕ). gathered len m (page_count len) d) map_written) (ap (patched bytes n) gathered_stay ∙ is))
      ∙ take-append-drop 56 body
