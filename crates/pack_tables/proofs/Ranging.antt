-- Whatever is in range is below a geometry's limits, which fit the widths of the rows: so such an image has a spelling,
-- once version, counts, times and owners fit theirs.
use Rattle.std.proofs.Common.{ℕ, ◌*◌, ◌^◌, ◌<◌, ◌≤◌, List, Option, Some, None, arith}
use Rattle.std.specs.Prelude.{IfSome}
use Rattle.std.proofs.lemmas.List.Elements.{All-weaker}
use Rattle.geometry.specs.declared.shape.Shape.{Shape}
use Rattle.geometry.specs.declared.shape.Shape.TheVariants.{Tiny, Kernel}
use Rattle.geometry.specs.declared.geometry.Geometry.{Geometry}
use Rattle.geometry.specs.Shape.{segment_blocks}
use Rattle.image.specs.declared.image.LogHead.{LogHead}
use Rattle.image.specs.Image.{Image}
use Rattle.image.specs.Node.{Node}
use Rattle.image.specs.Rules.{IsInRange, IsPlace}
use Rattle.pack_tables.specs.Grammar.{HasSmallNumbers, HasSpelling, IsPlaceRow}

blocks_few : (shape : Shape) (segments : ℕ) → segments ≤ 4096 → segments * segment_blocks shape < 2 ^ 32
blocks_few Tiny segments few = omega arith
blocks_few Kernel segments few = omega arith

offset_small : (shape : Shape) (offset : ℕ) → offset < segment_blocks shape → offset < 2 ^ 32
offset_small Tiny offset below = omega arith
offset_small Kernel offset below = omega arith

place_small : (geometry : Geometry) (log : Option LogHead) → IfSome log (IsPlace geometry) → IfSome log IsPlaceRow
place_small geometry None is = is
place_small geometry (Some place) is =
    let few = geometry.limits.segments_fit in
    let low = is.0 in
    (omega arith, offset_small geometry.shape place.next is.1)

-- whichever nodes are in range with the tables
pub has_spelling : (geometry : Geometry) (image : Image) (rows : List Node) → HasSmallNumbers image → IsInRange geometry (record image { nodes = rows }) → HasSpelling geometry image
has_spelling geometry image rows small range =
    let blocks = blocks_few geometry.shape geometry.segments geometry.limits.segments_fit in
    let nodes = geometry.limits.nodes_fit in
    record {
      version = small.version;
      total = small.total;
      logs = range.logs;
      places = All-weaker (λ log. IfSome log (IsPlace geometry)) (λ log. IfSome log IsPlaceRow) (place_small geometry) image.logs range.places;
      table = range.table;
      entries = λ k d below. (let e = range.entries k d below in let i = e.0 in let a = e.1 in (omega arith, omega arith, e.2));
      segments = range.segments;
      infos = λ k d below. (let s = small.infos k d below in (s.0, s.1, range.bits k d below));
      summaries = range.summaries;
      owners = small.owners;
    }
