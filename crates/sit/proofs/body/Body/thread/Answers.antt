use Rattle.std.proofs.Common.{◌≡◌, true, ap, ◌∙◌}
use Rattle.sit.specs.Segment.{Segment}
use Rattle.sit.specs.Thread.{is_threadable}
use Rattle.sit.proofs.Laws.{begun-law}
use Rattle.sit.proofs.body.Body.thread.Goals as goal

pub invariant_of-self : goal.invariant_of-self
invariant_of-self g c =
    let s = c.self.inside in
    let may : is_threadable s.state s.thread ≡ true = ap (λ (x : Segment). is_threadable x.state x.thread) c.self.view_is ∙ c.requires in
    begun-law _ s.blocks c.self.invariant c.begin.result c.args.log c.begin.new.self may c.begin.ensures
