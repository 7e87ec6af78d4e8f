use Rattle.std.proofs.Common.{◌≡◌, map, take, vec_len}
use Rattle.std.specs.Arc.{arc_value}
use Rattle.device.specs.Parts.{IsBlockRun}
use Rattle.geometry.specs.Shape.{block_bytes}
use Rattle.file_device.specs.Blocks.{content_of, is_kept}
use Rattle.file_device.specs.Held.{geometry_of}
use Rattle.file_device.proofs.opening.open_blocks.Given as goal

abbrev pub invariant-loop-place : goal.invariant-loop-place
invariant-loop-place l = record {
  run : IsBlockRun (λ b. b.address) content_of (block_bytes (arc_value l.fn.site).geometry.shape) 1 l.blocks.items;
  count : vec_len l.blocks ≡ l.place;
  numbers : geometry_of (arc_value l.run.kept) ≡ (arc_value l.fn.site).geometry;
  read : map is_kept l.blocks.items ≡ take l.place l.fn.named;
}
