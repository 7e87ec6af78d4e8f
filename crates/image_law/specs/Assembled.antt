-- The image that is assembled from parts over the main blocks.
use Rattle.image.specs.declared.image.NodeEntry.{NodeEntry}
use Rattle.std.specs.Prelude.{◌≡◌, ℕ, ◌%◌, List, map, sum_by, Some}
use Rattle.std.specs.List.{flat_map}
use Rattle.geometry.specs.declared.geometry.Geometry.{Geometry}
use Rattle.geometry.specs.File.{Block}
use Rattle.image.specs.Node.{Spells}
use Rattle.image.specs.Image.{Image}
use Rattle.image.specs.Walk.{up_to}
use Rattle.image.specs.Reading.{read_nodes}
use Rattle.image_law.specs.Items.{Among}
use Rattle.image_law.specs.Parts.{SegmentState, info, summaries_in, found, Stored, stored_of, FileTree, Parts, shard_at, file_at}

abbrev pub table_of : Geometry → Parts → List NodeEntry
table_of geometry parts = map (λ nid. found nid (shard_at parts (nid % 16))) (up_to geometry.nodes)

abbrev pub assembled : Geometry → ℕ → Parts → (ℕ → Block) → Image
assembled geometry version parts blocks = record {
  version = version;
  total = sum_by (λ (s : SegmentState). (info s).count) parts.segments;
  logs = parts.logs;
  node_table = table_of geometry parts;
  segments = map info parts.segments;
  summaries = flat_map summaries_in parts.segments;
  nodes = read_nodes geometry.shape blocks (table_of geometry parts);
}

-- the block of each node of a file spells it
abbrev pub AreSpelled : Geometry → Parts → (ℕ → Block) → Type 0
AreSpelled geometry parts blocks =
    (k : ℕ) (file : FileTree) (s : Stored) → file_at parts k ≡ Some file → Among s (stored_of file)
    → Spells geometry.shape (blocks s.address) s.node
