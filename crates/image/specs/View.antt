-- An image of the program as the definitions see it.
use Rattle.std.specs.Prelude.{ℕ, map, Option, Some, None}
use Rattle.geometry.specs.Class.{class_code}
use Rattle.image.specs.declared.image.Node.{Node as NodeValue}
use Rattle.image.specs.declared.image.SegmentInfo.{SegmentInfo as SegmentValue}
use Rattle.image.specs.declared.image.Image.{Image as ImageValue}
use Rattle.image.specs.Node.{Node}
use Rattle.image.specs.Image.{Image, SegmentInfo, no_node}

abbrev pub node_view : NodeValue → Node
node_view n = record {
  nid = n.nid;
  inode = n.inode;
  class = class_code n.class;
  length = n.length;
  kind = n.kind;
  addresses = n.addresses.items;
  children = n.children.items;
}

abbrev pub node_or_none : Option NodeValue → Node
node_or_none None = no_node
node_or_none (Some n) = node_view n

abbrev pub info_view : SegmentValue → SegmentInfo
info_view s = record { count = s.count; mtime = s.mtime; bits = s.bits.items }

abbrev pub image_view : ImageValue → Image
image_view i = record {
  version = i.version;
  total = i.total;
  logs = i.logs.items;
  node_table = i.nat.items;
  segments = map info_view i.sit.items;
  summaries = i.ssa.items;
  nodes = map node_or_none i.nodes.items;
}
