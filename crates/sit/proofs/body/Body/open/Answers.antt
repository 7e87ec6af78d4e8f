use Rattle.std.proofs.Common.{ap, ◌∙◌}
use Rattle.sit.proofs.Laws.{opened-law}
use Rattle.sit.proofs.body.Body.open.Goals as goal

pub invariant_of-self : goal.invariant_of-self
invariant_of-self g c =
    let s = c.self.inside in
    opened-law _ s.blocks c.self.invariant (ap (λ e. e.state) c.self.view_is ∙ c.requires)
