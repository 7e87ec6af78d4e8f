-- What a write of the next pack leaves of the pack that counts.
use Rattle.std.specs.Prelude.{◌≡◌, ℕ, ◌+◌, ◌<◌, ◌≤◌, true, List, length, take}
use Rattle.device.specs.Disk.{part, Leaves}
use Rattle.packs_journal.specs.Places.{IsArea, page_count, page_start, page_size, map_pages}
use Rattle.packs_journal.specs.Journal.{map_of, names_pages, is_head}
use Rattle.packs_journal.specs.Reading.{head_in, assembled, footer_in}

-- the map is that of the slot's pack, if it has one
abbrev pub IsMapOf : ℕ → ℕ → List ℕ → List ℕ → Type 0
IsMapOf len slot map area = is_head len (head_in slot area) ≡ true → map_of (head_in slot area) ≡ map

-- A new pack may be put beside that of a slot: the area has the right length, and whatever a crash leaves of it the map is that of
-- the slot's pack, if it has one, and a map of pages that there are.
pub record IsMapped {D : Type 0} (seen : D → List ℕ) (may_leave : D → List ℕ → Type 0) (len slot : ℕ) (map : List ℕ) (device : D) : Type 0 where
  pub area : IsArea len (seen device)
  pub one : slot ≤ 1
  pub mapped : Leaves may_leave device (IsMapOf len slot map)
  pub named : names_pages (page_count len) map map_pages ≡ true

-- Two areas that differ at most in what the pack of the other slot is made of: the front, the slot's head and body, and both
-- footers are the same.
pub record IsBeside (len slot : ℕ) (old new : List ℕ) : Type 0 where
  pub long : length new ≡ length old
  pub front : take 4096 new ≡ take 4096 old
  pub head : head_in slot new ≡ head_in slot old
  pub body : assembled len slot new ≡ assembled len slot old
  pub footers : (s : ℕ) → s < 2 → footer_in s new ≡ footer_in s old

-- an area that is beside one of those that a crash of a device may leave
abbrev pub IsBesideOne : {D : Type 0} (may_leave : D → List ℕ → Type 0) → ℕ → ℕ → D → List ℕ → Type 0
IsBesideOne may_leave len slot device new = (old : List ℕ) × may_leave device old × IsBeside len slot old new

-- page k of a body
abbrev pub body_page : ℕ → ℕ → List ℕ → List ℕ
body_page len k body = part (56 + page_start len k) (page_size len k) body
