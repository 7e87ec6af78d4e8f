use Rattle.sit.proofs.Laws.{unthreaded-law}
use Rattle.sit.proofs.body.Body.unthread.Goals as goal

pub invariant_of-self : goal.invariant_of-self
invariant_of-self g c = unthreaded-law _ c.self.inside.blocks c.self.invariant c.end.new.self c.end.ensures
