-- What a checkpoint records: tables, and the node blocks that the node address table names (Linux filesystems/f2fs, on-disk layout).
use Rattle.std.specs.Prelude.{ℕ, ◌-◌, Bool, false, ◌==◌, if◌then◌else◌, List, [], Option, slice_index_or}
use Rattle.geometry.specs.declared.geometry.Geometry.{Geometry}
use Rattle.geometry.specs.declared.kind.Kind.TheVariants.{File}
use Rattle.geometry.specs.declared.owner.Summary.{Summary}
use Rattle.geometry.specs.Address.{segment_of, offset_of}
use Rattle.image.specs.declared.image.LogHead.{LogHead}
use Rattle.image.specs.declared.image.NodeEntry.{NodeEntry}
use Rattle.image.specs.Node.{Node}

-- A segment's entry of the segment information table (SIT): how many blocks are valid, when it was last written, and a bit for each block.
pub record SegmentInfo : Type 0 where
  pub count : ℕ
  pub mtime : ℕ
  pub bits : List Bool

-- Six logs, each with the place of its next block, if it has an open segment; the node address table (NAT), an entry for
-- each node number from 1 on; an entry for each segment; a summary for each address from 1 on (SSA); and the node of each
-- entry of the node address table.
pub record Image : Type 0 where
  pub version : ℕ
  pub total : ℕ
  pub logs : List (Option LogHead)
  pub node_table : List NodeEntry
  pub segments : List SegmentInfo
  pub summaries : List Summary
  pub nodes : List Node

-- what stands where there is no entry, no segment, no summary, no node: each number is 0, and the class is none that a node may have
abbrev pub no_entry : NodeEntry
no_entry = record { inode = 0; address = 0 }

abbrev pub no_segment : SegmentInfo
no_segment = record { count = 0; mtime = 0; bits = [] }

abbrev pub no_summary : Summary
no_summary = record { nid = 0; slot = 0 }

abbrev pub no_node : Node
no_node = record { nid = 0; inode = 0; class = 4; length = 0; kind = File; addresses = []; children = [] }

-- the entry of a node number, and its node
abbrev pub entry_of : Image → ℕ → NodeEntry
entry_of image nid = if nid == 0 then no_entry else slice_index_or image.node_table (nid - 1) no_entry

abbrev pub node_of : Image → ℕ → Node
node_of image nid = if nid == 0 then no_node else slice_index_or image.nodes (nid - 1) no_node

abbrev pub info_of : Image → ℕ → SegmentInfo
info_of image segment = slice_index_or image.segments segment no_segment

-- whether the block at an address is valid, and its summary
abbrev pub is_marked : Geometry → Image → ℕ → Bool
is_marked geometry image address =
    if address == 0 then false
    else slice_index_or (info_of image (segment_of geometry.shape address)).bits (offset_of geometry.shape address) false

abbrev pub summary_at : Image → ℕ → Summary
summary_at image address =
    if address == 0 then no_summary else slice_index_or image.summaries (address - 1) no_summary
