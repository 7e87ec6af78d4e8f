-- How large the parts of a device are.
use Rattle.std.specs.Prelude.{ℕ, ◌+◌, ◌-◌, ◌*◌, ◌/◌}
use Rattle.geometry.specs.declared.geometry.Geometry.{Geometry}
use Rattle.geometry.specs.Shape.{segment_blocks}
use Rattle.geometry.specs.declared.packing.Packing.{Packing}
use Rattle.geometry.specs.declared.packing.Packing.TheVariants.{Slots, Pages}

-- the main blocks, whose addresses are 1 to as many
abbrev pub block_count : Geometry → ℕ
block_count geometry = geometry.segments * segment_blocks geometry.shape

-- the bytes of a pack: header, logs and footer, then eight a node number, a count, a time and a bit a block for each segment, and eight a block
abbrev pub pack_bytes : Geometry → ℕ
pack_bytes geometry =
    let n = segment_blocks geometry.shape in
    60 + 8 * geometry.nodes + geometry.segments * (12 + n / 8) + 8 * geometry.segments * n

-- The bytes of the meta area for packs of so many bytes: the superblock's 64, and two packs in slots; or the superblock and two heads,
-- of 4,096 bytes each, and two copies of each page of that size, which all of a pack but its first 56 bytes and its footer is cut into.
abbrev pub area_of : Packing → ℕ → ℕ
area_of Slots bytes = 64 + 2 * bytes
area_of Pages bytes = 12288 + 8192 * ((bytes - 60 + 4095) / 4096)

abbrev pub meta_bytes : Geometry → ℕ
meta_bytes geometry = area_of geometry.packing (pack_bytes geometry)
