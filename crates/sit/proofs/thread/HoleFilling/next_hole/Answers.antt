use Rattle.std.proofs.Common.{subst}
use Rattle.sit.specs.Thread.{IsNextHole}
use Rattle.sit.proofs.Threads.{next_is}
use Rattle.sit.proofs.thread.HoleFilling.next_hole.Goals as goal

pub returns : goal.returns
returns c = subst (λ t. IsNextHole t c.args.log c.next_set.result) c.self.view_is
    (next_is (record { kept = c.self.inside.kept; holes = c.self.inside.holes; log = c.self.inside.log }) c.args.log c.next_set.result c.if-self-log.false c.next_set.ensures)
