-- Where a meta area has its two heads and the two copies of each page of a body (the layout is this project's own).
use Rattle.std.specs.Prelude.{◌≡◌, ℕ, suc, ◌+◌, ◌-◌, ◌*◌, ◌/◌, ◌<◌, ◌≤◌, min, List, length}

-- A head: 56 bytes of a body, two numbers, a map with a bit for each page, and the changes, of twelve bytes each.
abbrev pub map_bytes : ℕ
map_bytes = 544

-- the pages that a map has bits for
abbrev pub map_pages : ℕ
map_pages = 4352

abbrev pub most_changes : ℕ
most_changes = 248

abbrev pub changes_bytes : ℕ
changes_bytes = 2976

-- where in a head its changes begin
abbrev pub changes_at : ℕ
changes_at = 608

abbrev pub head_bytes : ℕ
head_bytes = 3584

-- The area's first 4,096 bytes have the superblock, the next two times as many a head each: 3,584 bytes, and behind them, in
-- a sector of its own, a footer.
abbrev pub head_at : ℕ → ℕ
head_at slot = 4096 + 4096 * slot

abbrev pub footer_at : ℕ → ℕ
footer_at slot = 4096 + head_bytes + 4096 * slot

-- A body is 56 bytes of header and logs, which lie in a head, and a rest that is cut into pages of 4,096 bytes, the last of
-- them shorter. Each page has room for two copies, 0 and 1.
abbrev pub page_count : ℕ → ℕ
page_count len = (len - 56 + 4095) / 4096

abbrev pub page_at : ℕ → ℕ → ℕ
page_at k copy = 12288 + 8192 * k + 4096 * copy

-- where in the rest page k begins
abbrev pub page_start : ℕ → ℕ → ℕ
page_start len k = min (len - 56) (4096 * k)

abbrev pub page_size : ℕ → ℕ → ℕ
page_size len k = page_start len (suc k) - page_start len k

-- the words of eight bytes that a rest has, the last of them shorter
abbrev pub word_count : ℕ → ℕ
word_count len = (len - 56 + 7) / 8

abbrev pub area_bytes : ℕ → ℕ
area_bytes len = 12288 + 8192 * page_count len

-- the length of a body that has a rest, with a bit in the map for each page
pub record IsBody (len : ℕ) : Type 0 where
  pub header : 56 < len
  pub mapped : page_count len ≤ map_pages

-- the bytes are those of an area for bodies of this length
pub record IsArea (len : ℕ) (area : List ℕ) : Type 0 where
  pub body : IsBody len
  pub long : length area ≡ area_bytes len
