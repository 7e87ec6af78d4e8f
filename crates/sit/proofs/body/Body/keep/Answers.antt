use Rattle.sit.proofs.Laws.{kept-law}
use Rattle.sit.proofs.body.Body.keep.Goals as goal

pub invariant_of-self : goal.invariant_of-self
invariant_of-self g c = kept-law _ c.self.inside.blocks c.self.invariant c.keep.new.self c.keep.ensures
