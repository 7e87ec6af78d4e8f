-- An image as it is taken of parts: the tables row by row, and each node in the row of its number.
use Rattle.std.specs.Prelude.{◌≡◌, ◌≤◌, ◌-◌, ℕ, List, [], ◌∷◌, map, replicate, slice_set, sum_by, Option, Some}
use Rattle.std.specs.List.{flat_map}
use Rattle.geometry.specs.declared.geometry.Geometry.{Geometry}
use Rattle.image.specs.Node.{Node, HasEntries}
use Rattle.image.specs.Image.{Image, no_node}
use Rattle.image_law.specs.Items.{Among}
use Rattle.image_law.specs.Parts.{SegmentState, Stored, FileTree, each, stored_of, info, summaries_in, Parts, file_at}
use Rattle.image_law.specs.Assembled.{table_of}

-- rows in which these nodes were put, one after another, each in the row of its number
abbrev pub put_rows : List Node → List Node → List Node
put_rows rows [] = rows
put_rows rows (n ∷ nodes) = put_rows (slice_set rows (n.nid - 1) n) nodes

abbrev pub node_in : Stored → Node
node_in s = s.node

-- the nodes of a file, none where there is none
abbrev pub nodes_in : Option FileTree → List Node
nodes_in file = map node_in (each stored_of file)

abbrev pub all_nodes : Parts → List Node
all_nodes parts = flat_map nodes_in parts.files

pub record IsTakenOf (geometry : Geometry) (parts : Parts) (image : Image) : Type 0 where
  pub version : 1 ≤ image.version
  pub total : image.total ≡ sum_by (λ (s : SegmentState). (info s).count) parts.segments
  pub logs : image.logs ≡ parts.logs
  pub segments : image.segments ≡ map info parts.segments
  pub summaries : image.summaries ≡ flat_map summaries_in parts.segments
  pub table : image.node_table ≡ table_of geometry parts
  pub nodes : image.nodes ≡ put_rows (replicate geometry.nodes no_node) (all_nodes parts)

-- each node has as many entries as the shape says
abbrev pub AreSized : Geometry → Parts → Type 0
AreSized geometry parts =
    (k : ℕ) (file : FileTree) (s : Stored) → file_at parts k ≡ Some file → Among s (stored_of file) → HasEntries geometry.shape s.node s.node.class
