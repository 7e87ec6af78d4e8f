-- What a device holds in the hand of its packs, however its slots are read.
use Rattle.std.specs.Prelude.{◌≡◌, ℕ, ◌-◌, ◌^◌, ◌≤◌, ◌<◌, Bool, true, List, length, take, Option, Some}
use Rattle.device.specs.Disk.{Leaves}
use Rattle.image.specs.Slots.{version_of, slot_of}
use Rattle.packs.specs.Pack.{Reading, IsSettled, IsStaged, IsPicked}
use Rattle.geometry.specs.declared.geometry.Geometry.{Geometry}
use Rattle.packs.specs.Area.{area_bytes, slots_reading}
use Rattle.packs.specs.Parts.{body_bytes, map_in}
use Rattle.packs.specs.declared.choice.Ends.{Ends}
use Rattle.packs.specs.declared.choice.Found.{Found}
use Rattle.packs.specs.declared.map.Map.{Map}
use Rattle.packs.specs.declared.packs.Known.{Known}
use Rattle.geometry.specs.Area.{meta_bytes}
use Rattle.geometry.specs.declared.packing.Packing.TheVariants.{Slots, Pages}
use Rattle.packs_journal.specs.Places.{page_count, map_pages}
use Rattle.packs_journal.specs.Journal.{map_of, names_pages, is_head}
use Rattle.packs_journal.specs.Reading.{head_in, assembled}
use Rattle.packs_journal.specs.Pages.{DiffersIn}
use Rattle.packs.specs.declared.packs.Packs.{Packs}

-- the bytes are those of an area for packs of this geometry
abbrev pub IsArea : Geometry → List ℕ → Type 0
IsArea geometry area = length area ≡ meta_bytes geometry

-- the bytes are those of an area in slots for bodies of this length
pub record IsSlots (len : ℕ) (area : List ℕ) : Type 0 where
  -- a body has room for its header and its logs
  pub header : 56 ≤ len
  pub long : length area ≡ area_bytes len
  pub fits : area_bytes len < 2 ^ 64

-- the area has its length, and the 32 bytes in front, which tell the geometry, are the same
pub record IsSameArea (old new : List ℕ) : Type 0 where
  pub long : length new ≡ length old
  pub front : take 32 new ≡ take 32 old

-- c has P, and it has the length and the front of an area
pub record KeepsArea (area : List ℕ) (P : List ℕ → Type 0) (c : List ℕ) : Type 0 where
  pub packs : P c
  pub same : IsSameArea area c

-- What is known of where the parts or the pages of a slot's pack lie: in slots its map, and in pages the copies that count, if its head
-- is one, and a set of pages that has each in which its body differs from them.
pub record IsKnown (geometry : Geometry) (slot : ℕ) (known : Known) (area : List ℕ) : Type 0 where
  pub map : geometry.packing ≡ Slots → map_in geometry slot area ≡ known.map
  pub pages : geometry.packing ≡ Pages → is_head (body_bytes geometry) (head_in slot area) ≡ true → map_of (head_in slot area) ≡ known.pages.map
  pub names : geometry.packing ≡ Pages → names_pages (page_count (body_bytes geometry)) known.pages.map map_pages ≡ true
  pub noted : geometry.packing ≡ Pages → DiffersIn known.pages.noted (body_bytes geometry) known.pages.map (assembled (body_bytes geometry) slot area) area

-- in slots, old stands whole in an area like start, and this map in a slot
pub record KeepsMapped (geometry : Geometry) (slot : ℕ) (map : Option Map) (start old c : List ℕ) : Type 0 where
  pub kept : KeepsArea start (IsSettled (slots_reading geometry) old) c
  pub mapped : map_in geometry slot c ≡ map

-- each crash at this moment leaves the packs settled, with old picked and the map that they know
pub record AreSettled {D : Type 0} (reading : Reading) (seen : D → List ℕ) (may_leave : D → List ℕ → Type 0) (packs : Packs D) (old : List ℕ) : Type 0 where
  pub area : IsArea packs.geometry (seen packs.meta)
  pub version : packs.version ≡ version_of old
  pub left : Leaves may_leave packs.meta (KeepsArea (seen packs.meta) (IsSettled reading old))
  pub known : Leaves may_leave packs.meta (IsKnown packs.geometry (slot_of packs.version) packs.known)

-- the same, with new in the other slot, and the map of a pack in parts with these sides
pub record AreStaged {D : Type 0} (reading : Reading) (seen : D → List ℕ) (may_leave : D → List ℕ → Type 0) (packs : Packs D) (old new : List ℕ) (next : Known) : Type 0 where
  pub area : IsArea packs.geometry (seen packs.meta)
  pub version : packs.version ≡ version_of old
  pub left : Leaves may_leave packs.meta (KeepsArea (seen packs.meta) (IsStaged reading old new))
  pub known : Leaves may_leave packs.meta (IsKnown packs.geometry (1 - slot_of packs.version) next)

-- the body of the picked pack
abbrev pub body_of : {D : Type 0} (reading : Reading) (seen : D → List ℕ) → Packs D → List ℕ
body_of reading seen packs = reading.body (slot_of packs.version) (seen packs.meta)

-- the body in the other slot
abbrev pub staged_in : {D : Type 0} (reading : Reading) (seen : D → List ℕ) → Packs D → List ℕ
staged_in reading seen packs = reading.body (1 - slot_of packs.version) (seen packs.meta)

-- what the header and the footer of a slot hold
pub record HoldEnds (reading : Reading) (slot : ℕ) (area : List ℕ) (ends : Ends) : Type 0 where
  pub header : ends.header ≡ version_of (reading.body slot area)
  pub footer : ends.footer ≡ reading.footer slot area

-- the pack that counts in an area
pub record IsFound (reading : Reading) (area : List ℕ) (found : Found) : Type 0 where
  pub slot : IsPicked reading found.slot area
  pub version : found.version ≡ version_of (reading.body found.slot area)
  pub other : found.other ≡ reading.footer (1 - found.slot) area
