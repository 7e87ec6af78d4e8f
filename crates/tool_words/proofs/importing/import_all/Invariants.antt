use Rattle.std.proofs.Common.{ℕ, ◌≤◌, ◌-◌, length}
use Rattle.device.specs.Parts.{IsBlockRun}
use Rattle.tool_words.proofs.importing.import_all.Given as goal

abbrev pub invariant-loop-done : goal.invariant-loop-done
invariant-loop-done g l = record {
  run : (bytes : ℕ) × IsBlockRun g.B.Block.address_of g.B.Block.content_of bytes 1 l.parts.blocks.items;
  within : l.done ≤ length l.names;
}

abbrev pub decreases-loop-done : goal.decreases-loop-done
decreases-loop-done g l = length l.names - l.done
