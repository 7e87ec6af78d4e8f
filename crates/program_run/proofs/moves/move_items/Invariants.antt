use Rattle.std.proofs.Common.{take}
use Rattle.program_run.proofs.Moving.{AreMovedSoFar}
use Rattle.program_run.proofs.moves.move_items.Given as goal

abbrev pub invariant-loop-number : goal.invariant-loop-number
invariant-loop-number g l = AreMovedSoFar (take l.number-index l.numbers) l.fn.from l.to l.from
