-- A geometry's limits bound each of its tables, so a pack is longer than its header, its size fits a machine's numbers,
-- and both slots lie within the area.
use Rattle.std.proofs.Common.{◌≡◌, ◌∙◌, ap, subst, ℕ, zero, suc, ◌^◌, ◌<◌, ◌≤◌, ◌*◌, ◌/◌, ◌+◌, ◌-◌, List, length, arith}
use Rattle.geometry.specs.Area.{area_of, meta_bytes, pack_bytes}
use Rattle.geometry.specs.Shape.{segment_blocks}
use Rattle.geometry.specs.declared.geometry.Geometry.{Geometry}
use Rattle.geometry.specs.declared.shape.Shape.{Shape}
use Rattle.geometry.specs.declared.shape.Shape.TheVariants.{Tiny, Kernel}
use Rattle.packs.specs.Parts.{body_bytes, slot_at}
use Rattle.packs.specs.Area.{area_bytes}
use Rattle.packs.specs.Device.{IsSlots}
use Rattle.packs_journal.specs.Places.{IsBody, IsArea as IsPaged}
use Rattle.geometry.specs.declared.packing.Packing.TheVariants.{Slots, Pages}

-- what a geometry's limits say of its pack, by the blocks of a segment
fits_with : (shape : Shape) (segments nodes : ℕ) → segments ≤ 4096 → nodes ≤ 65536
    → 60 + 8 * nodes + segments * (12 + segment_blocks shape / 8) + 8 * segments * segment_blocks shape < 2 ^ 32
fits_with Tiny segments nodes few fewer = omega arith
fits_with Kernel segments nodes few fewer = omega arith

pub is_slots : (geometry : Geometry) (area : List ℕ) → geometry.packing ≡ Slots → length area ≡ meta_bytes geometry → IsSlots (body_bytes geometry) area
is_slots geometry area slots long =
    let small : pack_bytes geometry < 2 ^ 32 = fits_with geometry.shape geometry.segments geometry.nodes geometry.limits.segments_fit geometry.limits.nodes_fit in
    let whole : length area ≡ 64 + 2 * pack_bytes geometry = long ∙ ap (λ p. area_of p (pack_bytes geometry)) slots in
    record { header = omega arith; long = omega (arith, whole); fits = omega (arith, small) }

-- the bytes of a pack of the largest volume: 4,300 pages and 60 more
abbrev largest_pack : ℕ
largest_pack = 17612860

-- the pages of a pack are no more than a map has bits
pages_with : (shape : Shape) (segments nodes : ℕ) → segments ≤ 4096 → nodes ≤ 65536
    → 60 + 8 * nodes + segments * (12 + segment_blocks shape / 8) + 8 * segments * segment_blocks shape ≤ largest_pack
pages_with Tiny segments nodes few fewer = omega arith
pages_with Kernel segments nodes few fewer = omega arith

pub is_body : (geometry : Geometry) → IsBody (body_bytes geometry)
is_body geometry =
    let small : pack_bytes geometry ≤ largest_pack = pages_with geometry.shape geometry.segments geometry.nodes geometry.limits.segments_fit geometry.limits.nodes_fit in
    let some = geometry.limits.a_file in
    let more = geometry.limits.inodes in
    record { header = omega (arith, some, more); mapped = omega (arith, small) }

pub is_paged : (geometry : Geometry) (area : List ℕ) → geometry.packing ≡ Pages → length area ≡ meta_bytes geometry → IsPaged (body_bytes geometry) area
is_paged geometry area pages long =
    let whole : length area ≡ 12288 + 8192 * ((pack_bytes geometry - 60 + 4095) / 4096) = long ∙ ap (λ p. area_of p (pack_bytes geometry)) pages in
    record { body = is_body geometry; long = omega (arith, whole) }

-- a body has more than its header and its logs
pub is_more : (geometry : Geometry) → 56 < body_bytes geometry
is_more geometry = let some = geometry.limits.a_file in let more = geometry.limits.inodes in omega (arith, some, more)

-- and it is not longer than a machine's numbers go
pub is_small : (geometry : Geometry) → area_bytes (body_bytes geometry) < 2 ^ 64
is_small geometry =
    let small : pack_bytes geometry < 2 ^ 32 = fits_with geometry.shape geometry.segments geometry.nodes geometry.limits.segments_fit geometry.limits.nodes_fit in
    omega arith

-- an area of a geometry's size holds both slots
pub is_long : (geometry : Geometry) (area : List ℕ) → geometry.packing ≡ Slots → meta_bytes geometry ≤ length area → area_bytes (body_bytes geometry) ≤ length area
is_long geometry area slots le =
    let whole : 64 + 2 * pack_bytes geometry ≤ length area = subst (λ p. area_of p (pack_bytes geometry) ≤ length area) slots le in
    omega (arith, whole)

-- and so the header and the logs of each
pub front_fits : (len slot n : ℕ) → slot ≤ 1 → 56 ≤ len → area_bytes len ≤ n → slot_at len slot + 56 ≤ n
front_fits len zero n le some long = omega (arith, some, long)
front_fits len (suc zero) n le some long = omega (arith, some, long)
front_fits len (suc (suc slot)) n le some long = absurd (omega (arith, le))
