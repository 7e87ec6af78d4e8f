use Rattle.std.proofs.Common.{◌≡◌, ◌*◌, take, vec_len}
use Rattle.std.specs.List.{flat_map}
use Rattle.std.specs.Arc.{arc_value}
use Rattle.device.specs.declared.memory.block.MemBlock.{MemBlock}
use Rattle.device.specs.Parts.{IsBlockRun}
use Rattle.program_run.proofs.files.blocks_of.Given as goal

abbrev pub invariant-loop-place : goal.invariant-loop-place
invariant-loop-place l = record {
  run : IsBlockRun (λ (b : MemBlock). b.address) (λ (b : MemBlock). (arc_value b.bytes).items) l.size 1 l.blocks.items;
  count : vec_len l.blocks ≡ l.place;
  bytes : flat_map (λ (b : MemBlock). (arc_value b.bytes).items) l.blocks.items ≡ take (l.place * l.size) l.bytes;
}
