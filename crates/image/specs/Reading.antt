-- The image that a pack's body and the main blocks hold (how the bytes lie is this project's own). What is read is compared with the one spelling, so a block that says more or other than a node holds none.
use Rattle.std.specs.Prelude.{ℕ, zero, suc, ◌+◌, ◌-◌, ◌*◌, ◌/◌, ◌%◌, ◌^◌, Bool, true, false, ◌&&◌, ◌==◌, nat_lt, if◌then◌else◌, List, [], ◌∷◌, ◌++◌, map, slice_index, Option, Some, None}
use Rattle.byteorder.specs.Endian.{little_from}
use Rattle.geometry.specs.declared.shape.Shape.{Shape}
use Rattle.geometry.specs.declared.geometry.Geometry.{Geometry}
use Rattle.geometry.specs.declared.kind.Kind.{Kind}
use Rattle.geometry.specs.declared.kind.Kind.TheVariants.{File, Dir, Media}
use Rattle.geometry.specs.declared.owner.Summary.{Summary}
use Rattle.geometry.specs.Shape.{block_bytes, segment_blocks, inode_head}
use Rattle.geometry.specs.Path.{node_entries, inode_entries}
use Rattle.geometry.specs.Area.{block_count}
use Rattle.geometry.specs.File.{Block}
use Rattle.image.specs.declared.image.NodeEntry.{NodeEntry}
use Rattle.image.specs.declared.image.LogHead.{LogHead}
use Rattle.image.specs.Node.{Node, node_bytes}
use Rattle.image.specs.Image.{Image, SegmentInfo, no_node}

-- the number in four bytes from a place on
abbrev pub number_at : List ℕ → ℕ → ℕ
number_at bytes place = little_from place 4 bytes

-- how many numbers, one after the other
abbrev pub numbers_at : List ℕ → ℕ → ℕ → List ℕ
numbers_at bytes place zero = []
numbers_at bytes place (suc n) = number_at bytes place ∷ numbers_at bytes (place + 4) n

abbrev pub same_bytes : List ℕ → List ℕ → Bool
same_bytes [] [] = true
same_bytes (x ∷ xs) (y ∷ ys) = (x == y) && same_bytes xs ys
same_bytes xs ys = false

-- of the three codes; another number has no kind, and its block spells no node
abbrev pub kind_of : ℕ → Kind
kind_of zero = File
kind_of (suc zero) = Dir
kind_of (suc (suc code)) = Media

-- the node of a class whose fields stand in the block
abbrev pub node_fields : Shape → Block → ℕ → Node
node_fields shape block zero = record {
  nid = number_at block (block_bytes shape - 24);
  inode = number_at block (block_bytes shape - 20);
  class = 0;
  length = number_at block 0;
  kind = kind_of (slice_index block 4);
  addresses = numbers_at block (inode_head shape) (inode_entries shape);
  children = numbers_at block (inode_head shape + 4 * inode_entries shape) 5;
}
node_fields shape block (suc zero) = record {
  nid = number_at block (block_bytes shape - 24);
  inode = number_at block (block_bytes shape - 20);
  class = 1;
  length = 0;
  kind = File;
  addresses = numbers_at block 0 (node_entries shape);
  children = [];
}
node_fields shape block (suc (suc class)) = record {
  nid = number_at block (block_bytes shape - 24);
  inode = number_at block (block_bytes shape - 20);
  class = suc (suc class);
  length = 0;
  kind = File;
  addresses = [];
  children = numbers_at block 0 (node_entries shape);
}

abbrev pub is_spelled : Shape → Block → Node → Bool
is_spelled shape block node =
    same_bytes block (node_bytes shape node) && nat_lt node.class 3
    && nat_lt 0 node.nid && nat_lt 0 node.inode

-- the node that a block spells, and else none
abbrev pub read_node : Shape → Block → Node
read_node shape block =
    let node = node_fields shape block (number_at block (block_bytes shape - 16)) in
    if is_spelled shape block node then node else no_node

abbrev pub read_places : List ℕ → ℕ → ℕ → List (Option LogHead)
read_places body place zero = []
read_places body place (suc n) =
    (if number_at body place == 2 ^ 32 - 1 then None
    else Some (record { segment = number_at body place; next = number_at body (place + 4) }))
    ∷ read_places body (place + 8) n

abbrev pub read_table : List ℕ → ℕ → ℕ → List NodeEntry
read_table body place zero = []
read_table body place (suc n) =
    record { inode = number_at body place; address = number_at body (place + 4) } ∷ read_table body (place + 8) n

-- n bits of a number, the lowest first
abbrev pub number_bits : ℕ → ℕ → List Bool
number_bits zero number = []
number_bits (suc n) number = (number % 2 == 1) ∷ number_bits n (number / 2)

abbrev pub read_bitmap : List ℕ → ℕ → ℕ → List Bool
read_bitmap body place zero = []
read_bitmap body place (suc n) = number_bits 8 (slice_index body place) ++ read_bitmap body (place + 1) n

abbrev pub read_segments : Shape → List ℕ → ℕ → ℕ → List SegmentInfo
read_segments shape body place zero = []
read_segments shape body place (suc n) =
    record {
      count = number_at body place;
      mtime = little_from (place + 4) 8 body;
      bits = read_bitmap body (place + 12) (segment_blocks shape / 8);
    }
    ∷ read_segments shape body (place + 12 + segment_blocks shape / 8) n

abbrev pub read_summaries : List ℕ → ℕ → ℕ → List Summary
read_summaries body place zero = []
read_summaries body place (suc n) = record { nid = number_at body place; slot = number_at body (place + 4) } ∷ read_summaries body (place + 8) n

-- the node in the block at an address
abbrev pub node_at : Shape → (ℕ → Block) → ℕ → Node
node_at shape blocks zero = no_node
node_at shape blocks (suc address) = read_node shape (blocks (suc address))

abbrev pub read_nodes : Shape → (ℕ → Block) → List NodeEntry → List Node
read_nodes shape blocks table = map (λ (entry : NodeEntry). node_at shape blocks entry.address) table

-- where the tables begin in a body
abbrev pub table_start : ℕ
table_start = 56

abbrev pub segments_start : Geometry → ℕ
segments_start geometry = table_start + 8 * geometry.nodes

abbrev pub summaries_start : Geometry → ℕ
summaries_start geometry = segments_start geometry + geometry.segments * (12 + segment_blocks geometry.shape / 8)

-- the tables of a body, and the nodes in the blocks
unfoldable pub image_in : Geometry → List ℕ → (ℕ → Block) → Image
image_in geometry body blocks = record {
  version = number_at body 0;
  total = number_at body 4;
  logs = read_places body 8 6;
  node_table = read_table body table_start geometry.nodes;
  segments = read_segments geometry.shape body (segments_start geometry) geometry.segments;
  summaries = read_summaries body (summaries_start geometry) (block_count geometry);
  nodes = read_nodes geometry.shape blocks (read_table body table_start geometry.nodes);
}
