use Rattle.std.proofs.Common.{◌+◌, refl, ap, ◌∙◌, subst}
use Rattle.sit.specs.Segment.{Segment, IsStateAt}
use Rattle.sit.proofs.Laws.{placed-law}
use Rattle.sit.proofs.body.Body.place.Goals as goal

pub invariant_of-self-2 : goal.invariant_of-self-2
invariant_of-self-2 g c =
    let s = c.self.inside in
    let view = c.self.view_is in
    placed-law _ s.blocks c.self.invariant s.next _ _ _ _ c.set.new.self c.write_out.new.self c.args.owner
    (ap (λ (x : Segment). x.state) view ∙ c.requires.open) refl c.set.ensures.set c.in_ok-block.ensures.home
    (subst (λ n. IsStateAt (s.next + 1) n c.state_at-self-inside.result) c.segment_blocks.ensures c.state_at-self-inside.ensures)
