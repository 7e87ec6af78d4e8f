-- Where the two slots of a meta area lie, and how they are read (Linux filesystems/f2fs: two checkpoint packs; the layout is this project's own).
use Rattle.std.specs.Prelude.{ℕ, ◌+◌, ◌*◌}
use Rattle.byteorder.specs.Endian.{little_number}
use Rattle.geometry.specs.declared.packing.Packing.{Packing}
use Rattle.geometry.specs.declared.packing.Packing.TheVariants.{Slots, Pages}
use Rattle.geometry.specs.declared.geometry.Geometry.{Geometry}
use Rattle.packs_journal.specs.Places.{head_at, footer_at as foot_at}
use Rattle.packs_journal.specs.Reading.{assembled as paged, footer_in}
use Rattle.device.specs.Disk.{part}
use Rattle.packs.specs.Pack.{Reading}
use Rattle.packs.specs.Parts.{body_bytes, slot_at, assembled}

abbrev pub footer_at : ℕ → ℕ → ℕ
footer_at len slot = 64 + slot * (len + 4) + len

abbrev pub area_bytes : ℕ → ℕ
area_bytes len = 64 + 2 * (len + 4)

-- where a pack's header and its footer begin
abbrev pub header_by : Packing → ℕ → ℕ → ℕ
header_by Slots len slot = slot_at len slot
header_by Pages len slot = head_at slot

abbrev pub footer_by : Packing → ℕ → ℕ → ℕ
footer_by Slots len slot = footer_at len slot
footer_by Pages len slot = foot_at slot

-- how an area in slots is read: a slot's body is put together from its parts, and a little-endian number stands in its footer
abbrev pub slots_reading : Geometry → Reading
slots_reading geometry = record {
  body = λ slot area. assembled geometry slot area;
  footer = λ slot area. little_number 4 (part (footer_at (body_bytes geometry) slot) 4 area);
}

-- how an area in pages is read: a body is put together from its head and the pages that the head names
abbrev pub pages_reading : Geometry → Reading
pages_reading geometry = record {
  body = λ slot area. paged (body_bytes geometry) slot area;
  footer = λ slot area. footer_in slot area;
}

-- how an area is read
abbrev pub reading_by : Packing → Geometry → Reading
reading_by Slots geometry = slots_reading geometry
reading_by Pages geometry = pages_reading geometry

abbrev pub reading_of : Geometry → Reading
reading_of geometry = reading_by geometry.packing geometry
