use Rattle.program_run.proofs.Moving.{AreJoinedSoFar}
use Rattle.program_run.proofs.moves.join_items.Given as goal

abbrev pub invariant-loop-place : goal.invariant-loop-place
invariant-loop-place g l = AreJoinedSoFar l.place l.fn.from.items l.fn.to l.from.items l.to
