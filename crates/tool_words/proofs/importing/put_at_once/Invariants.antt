use Rattle.std.proofs.Common.{ℕ, ◌≤◌, length}
use Rattle.device.specs.Parts.{IsBlockRun}
use Rattle.tool_words.proofs.importing.put_at_once.Given as goal

abbrev pub invariant-loop-most : goal.invariant-loop-most
invariant-loop-most g l = record {
  run : (bytes : ℕ) × IsBlockRun g.B.Block.address_of g.B.Block.content_of bytes 1 l.parts.blocks.items;
  within : l.most ≤ length l.files;
}

abbrev pub decreases-loop-most : goal.decreases-loop-most
decreases-loop-most g l = l.most
