use Rattle.std.proofs.Common.{◌≡◌, true, false, get_or, ap, ◌∙◌}
use Rattle.sit.specs.Segment.{Segment}
use Rattle.sit.proofs.Laws.{filled-law}
use Rattle.sit.proofs.body.Body.fill.Goals as goal

pub invariant_of-self-2 : goal.invariant_of-self-2
invariant_of-self-2 g c =
    let s = c.self.inside in
    let hole : get_or s.thread.holes c.args.offset false ≡ true = ap (λ (x : Segment). get_or x.thread.holes c.args.offset false) c.self.view_is ∙ c.requires.hole in
    filled-law _ s.blocks c.self.invariant c.args.offset _ _ _ c.set.new.self c.write_out.new.self c.fill.new.self c.args.owner hole c.set.ensures.set c.in_ok-block.ensures.home c.fill.ensures
