-- Size, front, tables and nodes were each read off the bytes, so what was read is what they hold.
use Rattle.std.proofs.Common.{◌≡◌, ◌∙◌, ℕ, List, length, take, sym, ap, arith}
use Rattle.std.proofs.lemmas.List.{length-take, take-take}
use Rattle.device.specs.Disk.{part}
use Rattle.geometry.specs.Area.{meta_bytes, pack_bytes}
use Rattle.geometry.proofs.Areas.{holds_front}
use Rattle.geometry.specs.declared.geometry.Geometry.{Geometry}
use Rattle.image.specs.Image.{Image}
use Rattle.image.specs.Node.{Node}
use Rattle.image.specs.Reading.{read_nodes}
use Rattle.image.specs.Rules.{IsLawful}
use Rattle.image_reading.specs.Held.{HoldsVolume, area_in}
use Rattle.pack_tables.specs.File.{block_in, file_bytes}
use Rattle.pack_tables.specs.Grammar.{HasSuper}
use Rattle.pack_tables.specs.Holding.{HoldsTables}

-- the superblock that was read in front is that of the area
pub front_there : (geometry : Geometry) (front bytes : List ℕ) → front ≡ part 0 64 bytes → length bytes ≡ file_bytes geometry → HasSuper geometry front
    → HasSuper geometry (area_in geometry bytes)
front_there geometry front bytes read long super =
    let whole = holds_front geometry.packing (pack_bytes geometry) in (
      omega (arith, long, whole, length-take (meta_bytes geometry) bytes),
      take-take 32 (meta_bytes geometry) bytes (omega (arith, whole)) ∙ sym (ap (take 32) read ∙ take-take 32 64 bytes (omega arith)) ∙ super.1,
    )

-- tables are spelled whatever the nodes are
pub held_with : (geometry : Geometry) (area : List ℕ) (image : Image) (nodes : List Node) → HoldsTables geometry image area → HoldsTables geometry (record image { nodes = nodes }) area
held_with geometry area image nodes held = record {
  body = held.body;
  picked = held.picked;
  spelled = (
    record {
      version = held.spelled.0.version;
      total = held.spelled.0.total;
      logs = held.spelled.0.logs;
      places = held.spelled.0.places;
      table = held.spelled.0.table;
      entries = held.spelled.0.entries;
      segments = held.spelled.0.segments;
      infos = held.spelled.0.infos;
      summaries = held.spelled.0.summaries;
      owners = held.spelled.0.owners;
    },
    held.spelled.1,
  );
}

-- all of it
pub holds : (geometry : Geometry) (tables : Image) (nodes : List Node) (bytes : List ℕ) → length bytes ≡ file_bytes geometry → HasSuper geometry (area_in geometry bytes)
    → HoldsTables geometry tables (area_in geometry bytes) → nodes ≡ read_nodes geometry.shape (block_in geometry bytes) tables.node_table
    → IsLawful geometry (record tables { nodes = nodes }) → HoldsVolume geometry (record tables { nodes = nodes }) bytes
holds geometry tables nodes bytes long super held read lawful = record {
  size = long;
  held = record { front = super; tables = held_with geometry (area_in geometry bytes) tables nodes held; nodes = read };
  lawful = lawful;
}
