use Rattle.device.proofs.ZeroBlocks.{AreZeroBlocks}
use Rattle.device.proofs.memory.device.zero_blocks.Given as goal

abbrev pub invariant-loop-place : goal.invariant-loop-place
invariant-loop-place l = AreZeroBlocks l.fn.bytes l.place l.blocks.items
