-- The bytes of the superblock and of a checkpoint pack (Linux filesystems/f2fs, checkpoint area; how the bytes lie is this project's own).
use Rattle.std.specs.Prelude.{ℕ, zero, suc, ◌+◌, ◌-◌, ◌*◌, ◌/◌, ◌^◌, Bool, true, false, List, [], ◌∷◌, ◌++◌, take, drop, replicate, Option, Some, None, codes}
use Rattle.std.specs.List.{flat_map}
use Rattle.byteorder.specs.Endian.{little_bytes, little_number}
use Rattle.geometry.specs.declared.shape.Shape.{Shape}
use Rattle.geometry.specs.declared.shape.Shape.TheVariants.{Tiny, Kernel}
use Rattle.geometry.specs.declared.packing.Packing.{Packing}
use Rattle.geometry.specs.declared.packing.Packing.TheVariants.{Slots, Pages}
use Rattle.geometry.specs.declared.geometry.Geometry.{Geometry}
use Rattle.geometry.specs.declared.owner.Summary.{Summary}
use Rattle.geometry.specs.Shape.{segment_blocks}
use Rattle.geometry.specs.Area.{pack_bytes}
use Rattle.image.specs.declared.image.NodeEntry.{NodeEntry}
use Rattle.image.specs.declared.image.LogHead.{LogHead}
use Rattle.image.specs.Node.{numbers}
use Rattle.image.specs.Image.{Image, SegmentInfo}
use Rattle.image.specs.Slots.{Slot}

abbrev pub shape_code : Shape → ℕ
shape_code Tiny = 0
shape_code Kernel = 1

-- 1 for formats 1 and 2, which a map tells apart
abbrev pub packing_code : Packing → ℕ
packing_code Slots = 1
packing_code Pages = 3

-- 64 bytes: a name, the number of the packing, the volume's numbers, and zeros
abbrev pub superblock : Geometry → List ℕ
superblock geometry =
    codes "F2SEG001"
    ++ numbers (packing_code geometry.packing ∷ shape_code geometry.shape ∷ geometry.segments ∷ geometry.per_section ∷ geometry.files ∷ geometry.nodes ∷ [])
    ++ replicate 32 0

abbrev pub log_bytes : Option LogHead → List ℕ
log_bytes None = numbers ((2 ^ 32 - 1) ∷ 0 ∷ [])
log_bytes (Some place) = numbers (place.segment ∷ place.next ∷ [])

abbrev pub entry_bytes : NodeEntry → List ℕ
entry_bytes entry = numbers (entry.inode ∷ entry.address ∷ [])

-- the number of eight bits, the lowest first
abbrev pub bits_number : List Bool → ℕ
bits_number [] = 0
bits_number (true ∷ rest) = 1 + 2 * bits_number rest
bits_number (false ∷ rest) = 2 * bits_number rest

-- n bytes of eight bits each
abbrev pub bitmap : ℕ → List Bool → List ℕ
bitmap zero bits = []
bitmap (suc n) bits = bits_number (take 8 bits) ∷ bitmap n (drop 8 bits)

abbrev pub segment_bytes : Shape → SegmentInfo → List ℕ
segment_bytes shape info =
    little_bytes 4 info.count ++ little_bytes 8 info.mtime ++ bitmap (segment_blocks shape / 8) info.bits

abbrev pub summary_bytes : Summary → List ℕ
summary_bytes summary = numbers (summary.nid ∷ summary.slot ∷ [])

-- all of a pack but its last number: version and total, logs, node address table, segments, summaries
abbrev pub pack_body : Shape → Image → List ℕ
pack_body shape image =
    numbers (image.version ∷ image.total ∷ [])
    ++ flat_map log_bytes image.logs
    ++ flat_map entry_bytes image.node_table
    ++ flat_map (segment_bytes shape) image.segments
    ++ flat_map summary_bytes image.summaries

-- the footer, the version once more, takes the last four bytes
abbrev pub body_bytes : Geometry → ℕ
body_bytes geometry = pack_bytes geometry - 4

-- the two slots of the meta area follow the superblock
abbrev pub slot_start : Geometry → ℕ → ℕ
slot_start geometry slot = 64 + slot * pack_bytes geometry

-- a slot's bytes, cut where the footer begins
abbrev pub cut_slot : Geometry → List ℕ → Slot
cut_slot geometry bytes = record {
  body = take (body_bytes geometry) bytes;
  footer = little_number 4 (drop (body_bytes geometry) bytes);
}
