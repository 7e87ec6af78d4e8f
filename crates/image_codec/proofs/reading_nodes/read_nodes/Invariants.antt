use Rattle.std.proofs.Common.{◌≡◌, ◌≤◌, length, take, map, vec_len}
use Rattle.std.specs.Vec.{vec_capacity}
use Rattle.device.specs.Parts.{IsBlockRun}
use Rattle.geometry.specs.Shape.{block_bytes}
use Rattle.image.specs.Reading.{read_nodes}
use Rattle.image.specs.View.{node_or_none}
use Rattle.geometry.specs.Weights.{weigh}
use Rattle.image_codec.specs.Blocks.{bytes_at}
use Rattle.image_codec.proofs.Unchanged.{AreSpelled}
use Rattle.image_codec.proofs.reading_nodes.read_nodes.Given as goal

abbrev pub invariant-loop-entry : goal.invariant-loop-entry
invariant-loop-entry g l = record {
  nodes : map node_or_none l.nodes.items ≡ read_nodes l.shape (bytes_at g.B.Block.content_of l.fn.blocks.items) (take l.entry-index l.nat);
  spelled : AreSpelled l.shape (bytes_at g.B.Block.content_of l.fn.blocks.items) l.nat l.nodes.items;
  failures : weigh g.B.Block.failed l.fn.blocks.items ≤ weigh g.B.Block.failed l.blocks.items;
  run : IsBlockRun g.B.Block.address_of g.B.Block.content_of (block_bytes l.shape) 1 l.blocks.items;
  contents : map g.B.Block.content_of l.blocks.items ≡ map g.B.Block.content_of l.fn.blocks.items;
  buffer : length l.buffer.items ≡ block_bytes l.shape;
  room : length l.nat ≤ vec_capacity l.nodes;
  count : vec_len l.nodes ≡ l.entry-index;
}
