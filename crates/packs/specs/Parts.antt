-- The parts of a pack, and which of them lie in the other slot (Linux filesystems/f2fs: NAT and SIT blocks are shadowed one by one; the layout is this project's own).
use Rattle.std.specs.Prelude.{ℕ, zero, suc, ◌+◌, ◌-◌, ◌*◌, ◌/◌, Bool, true, false, ◌&&◌, ◌==◌, nat_lt, min, if◌then◌else◌, List, [], ◌∷◌, ◌++◌, replicate, slice_index_or, Option, Some, None}
use Rattle.byteorder.specs.Endian.{little_from, little_bytes}
use Rattle.geometry.specs.declared.packing.Packing.{Packing}
use Rattle.geometry.specs.declared.packing.Packing.TheVariants.{Slots, Pages}
use Rattle.geometry.specs.declared.geometry.Geometry.{Geometry}
use Rattle.geometry.specs.Shape.{segment_blocks}
use Rattle.geometry.specs.Area.{pack_bytes}
use Rattle.device.specs.Disk.{part}
use Rattle.image.specs.Pack.{bits_number}
use Rattle.image.specs.Reading.{number_at, number_bits}
use Rattle.packs.specs.declared.map.Map.{Map}

-- the bytes of a body: a pack without its footer of four
abbrev pub body_bytes : Geometry → ℕ
body_bytes geometry = pack_bytes geometry - 4

-- the slots lie behind the superblock's 64 bytes, and each has a body and a footer
abbrev pub slot_at : ℕ → ℕ → ℕ
slot_at len slot = 64 + slot * (len + 4)

-- A table of so many rows is cut into 32 parts of as many rows each, as far as the rows go: the row that part p begins with.
abbrev pub first_row : ℕ → ℕ → ℕ
first_row rows p = min rows (p * ((rows + 31) / 32))

-- Where in its slot each of the 66 parts of a body begins: part 0 is header and logs, parts 1 to 32 are those of the node
-- address table, 33 to 64 those of the segment information table, and 65 has the summaries; where 66 would begin the body ends.
unfoldable pub place : Geometry → ℕ → ℕ
place geometry zero = 0
place geometry (suc k) =
    56 + 8 * first_row geometry.nodes k
    + first_row geometry.segments (k - 32) * (12 + segment_blocks geometry.shape / 8)
    + (k - 64) * (8 * geometry.segments * segment_blocks geometry.shape)

-- whether a part lies in the other slot: each table part has a bit, and header, logs and summaries lie in their own slot
abbrev pub side : List Bool → ℕ → Bool
side sides zero = false
side sides (suc k) = slice_index_or sides k false

-- the slot, 0 or 1, in which a part of a slot's pack lies
abbrev pub lies : ℕ → Bool → ℕ
lies slot false = slot
lies slot true = 1 - slot

-- part k of a slot's pack, whose length is up to the next part
abbrev pub piece : Geometry → ℕ → List Bool → ℕ → List ℕ → List ℕ
piece geometry slot sides k area =
    part (slot_at (body_bytes geometry) (lies slot (side sides k)) + place geometry k) (place geometry (suc k) - place geometry k) area

-- the first n parts of a slot's pack, one after the other
unfoldable pub gathered : Geometry → ℕ → List Bool → ℕ → List ℕ → List ℕ
gathered geometry slot sides zero area = []
gathered geometry slot sides (suc n) area = gathered geometry slot sides n area ++ piece geometry slot sides n area

-- a bit is set only for a part that has bytes; the first of the bits is that of part k
abbrev pub are_parts : Geometry → ℕ → List Bool → Bool
are_parts geometry k [] = true
are_parts geometry k (b ∷ sides) =
    (if b then nat_lt (place geometry k) (place geometry (suc k)) else true) && are_parts geometry (suc k) sides

-- where a slot's map stands, behind the 32 bytes that tell the geometry
abbrev pub map_at : ℕ → ℕ
map_at slot = 32 + 16 * slot

abbrev pub map_bytes : ℕ → List ℕ → List ℕ
map_bytes slot area = part (map_at slot) 16 area

-- the bits of 64 parts
unfoldable pub sides_of : ℕ → List Bool
sides_of number = number_bits 64 number

-- A map's 16 bytes: the format, 0 or 2; a bit for each part of the two tables, those of the node address table first; and four
-- zeros. With format 0 all are zeros: each part lies in its own slot.
abbrev pub is_map : Geometry → ℕ → ℕ → ℕ → List Bool → Bool
is_map geometry format number zeros sides =
    (zeros == 0) && (if format == 0 then number == 0 else (format == 2) && are_parts geometry 1 sides)

abbrev pub map_of : Geometry → ℕ → ℕ → ℕ → Option Map
map_of geometry format number zeros =
    if is_map geometry format number zeros (sides_of number)
    then Some (record { in_parts = format == 2; sides = sides_of number })
    else None

-- the map that these bytes spell
unfoldable pub read_map : Geometry → List ℕ → Option Map
read_map geometry bytes = map_of geometry (number_at bytes 0) (little_from 4 8 bytes) (number_at bytes 12)

-- the bytes that spell the map of a pack in parts
abbrev pub spelled_map : List Bool → List ℕ
spelled_map sides = little_bytes 4 2 ++ little_bytes 8 (bits_number sides) ++ replicate 4 0

-- the map of a slot
abbrev pub map_in : Geometry → ℕ → List ℕ → Option Map
map_in geometry slot area = read_map geometry (map_bytes slot area)

-- the parts that a map names; without one, header and logs alone
abbrev pub assembled_by : Geometry → ℕ → List ℕ → Option Map → List ℕ
assembled_by geometry slot area None = part (slot_at (body_bytes geometry) slot) (place geometry 1) area
assembled_by geometry slot area (Some map) = gathered geometry slot map.sides 66 area

-- The body of a slot's pack: its parts, each from the slot in which the slot's map says that it lies. With a map that is none it
-- is too short to spell tables.
unfoldable pub assembled : Geometry → ℕ → List ℕ → List ℕ
assembled geometry slot area = assembled_by geometry slot area (map_in geometry slot area)

-- the sides of the parts of a pack, as far as they are known
abbrev pub known_sides : Option Map → List Bool
known_sides None = []
known_sides (Some map) = map.sides

-- the number of a pack's format
abbrev pub format_of : Packing → Option Map → ℕ
format_of Slots None = 1
format_of Slots (Some map) = if map.in_parts then 2 else 1
format_of Pages map = 3

-- the format that a write makes
abbrev pub newest_format : Packing → ℕ
newest_format Slots = 2
newest_format Pages = 3
