use Rattle.std.proofs.Common.{◌≡◌, vec_len}
use Rattle.std.specs.Arc.{arc_value}
use Rattle.std.specs.List.{flat_map}
use Rattle.std.specs.Io.KnownBytes.{Consumes}
use Rattle.device.specs.declared.memory.block.MemBlock.{MemBlock}
use Rattle.device.specs.Parts.{IsBlockRun}
use Rattle.file_device.proofs.reading.read_blocks.Given as goal

abbrev pub invariant-loop-place : goal.invariant-loop-place
invariant-loop-place g l = record {
  run : IsBlockRun (λ (b : MemBlock). b.address) (λ (b : MemBlock). (arc_value b.bytes).items) l.size 1 l.blocks.items;
  count : vec_len l.blocks ≡ l.place;
  read : Consumes (g.R.Read.remaining l.fn.input) (g.R.Read.remaining l.input) (flat_map (λ (b : MemBlock). (arc_value b.bytes).items) l.blocks.items);
}
