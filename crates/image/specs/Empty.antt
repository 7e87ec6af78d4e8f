-- The image of a volume without files, as a format writes it (Linux filesystems/f2fs, on-disk layout; mkfs.f2fs).
use Rattle.std.specs.Prelude.{ℕ, false, map, replicate, Option, Some}
use Rattle.geometry.specs.declared.shape.Shape.{Shape}
use Rattle.geometry.specs.declared.geometry.Geometry.{Geometry}
use Rattle.geometry.specs.Shape.{segment_blocks}
use Rattle.geometry.specs.Area.{block_count}
use Rattle.image.specs.declared.image.LogHead.{LogHead}
use Rattle.image.specs.Image.{Image, SegmentInfo, no_entry, no_summary, no_node}
use Rattle.image.specs.Files.{below}

-- a segment in which no block is valid
abbrev pub empty_segment : Shape → SegmentInfo
empty_segment shape = record { count = 0; mtime = 0; bits = replicate (segment_blocks shape) false }

-- the log of a number appends to the segment of that number, from its first block on
abbrev pub first_place : ℕ → Option LogHead
first_place log = Some (record { segment = log; next = 0 })

-- version 1: no file, no node, no valid block, and segments 0 to 5 open, one for each log
abbrev pub empty_image : Geometry → Image
empty_image geometry = record {
  version = 1;
  total = 0;
  logs = map first_place (below 6);
  node_table = replicate geometry.nodes no_entry;
  segments = replicate geometry.segments (empty_segment geometry.shape);
  summaries = replicate (block_count geometry) no_summary;
  nodes = replicate geometry.nodes no_node;
}
