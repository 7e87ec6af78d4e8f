-- The rows of an image that only its spelling has, and its nodes.
use Rattle.std.specs.Prelude.{List}
use Rattle.geometry.specs.declared.owner.Summary.{Summary}
use Rattle.image.specs.declared.image.Image.{Image as ImageValue}
use Rattle.image.specs.declared.image.NodeEntry.{NodeEntry}
use Rattle.image.specs.Image.{Image, SegmentInfo}
use Rattle.image.specs.Node.{Node}
use Rattle.image.specs.View.{image_view}

-- a row for each node number, for each segment, for each block, and the node of each number
pub record Rows : Type 0 where
  pub entries : List NodeEntry
  pub segments : List SegmentInfo
  pub summaries : List Summary
  pub nodes : List Node

-- an image with these rows in place of its own
abbrev pub with_rows : ImageValue → Rows → Image
with_rows tables rows = record (image_view tables) { node_table = rows.entries; segments = rows.segments; summaries = rows.summaries; nodes = rows.nodes }
