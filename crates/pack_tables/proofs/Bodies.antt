-- The body of an image: the version that it begins with, and what an area holds where it counts.
use Rattle.std.proofs.Common.{◌≡◌, ℕ, ◌^◌, ◌<◌, List, ◌++◌, [], ◌∷◌, arith}
use Rattle.std.specs.List.{flat_map}
use Rattle.byteorder.specs.Numbers.{little_number-reads_back}
use Rattle.geometry.specs.declared.geometry.Geometry.{Geometry}
use Rattle.geometry.specs.declared.shape.Shape.{Shape}
use Rattle.image.specs.Image.{Image}
use Rattle.image.specs.Node.{numbers}
use Rattle.image.specs.Pack.{pack_body, log_bytes, entry_bytes, segment_bytes, summary_bytes}
use Rattle.image.specs.Slots.{version_of}
use Rattle.packs.specs.Pack.{slots_in, IsSettled}
use Rattle.packs.specs.Area.{reading_of}
use Rattle.image.proofs.Picking.{settled_picks}
use Rattle.pack_tables.specs.Grammar.{SpellsTables}
use Rattle.pack_tables.specs.Holding.{HoldsTables}

pub body_version : (shape : Shape) (image : Image) → image.version < 2 ^ 32 → version_of (pack_body shape image) ≡ image.version
unfolding version_of
body_version shape image fits =
    little_number-reads_back 4 image.version
    (numbers (image.total ∷ []) ++ flat_map log_bytes image.logs ++ flat_map entry_bytes image.node_table ++ flat_map (segment_bytes shape) image.segments ++ flat_map summary_bytes image.summaries)
    (omega arith)

-- an area that is settled with an image's body holds its tables
pub settled_area_holds : (geometry : Geometry) (image : Image) (body area : List ℕ) → SpellsTables geometry body image
    → IsSettled (reading_of geometry) body area → HoldsTables geometry image area
settled_area_holds geometry image body area spelled settled = record {
  body = body;
  picked = settled_picks (slots_in (reading_of geometry) area) body settled;
  spelled = spelled;
}
