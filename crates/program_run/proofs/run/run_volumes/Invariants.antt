use Rattle.std.proofs.Common.{length}
use Rattle.program_run.proofs.Going.{Gone}
use Rattle.program_run.proofs.run.run_volumes.Given as goal

abbrev pub invariant-loop-left : goal.invariant-loop-left
invariant-loop-left g l = Gone g.M.Meta.seen g.B.Block.address_of g.B.Block.content_of l.fn.steps l.rest l.left (g.W.Write.contents l.fn.out) (g.W.Write.contents l.out)

abbrev pub decreases-loop-left : goal.decreases-loop-left
decreases-loop-left g l = length l.rest
