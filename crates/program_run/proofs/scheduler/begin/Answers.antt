use Rattle.std.proofs.Common.{◌∙◌, sym}
use Rattle.program_run.proofs.Turning.{begins_behind}
use Rattle.program_run.proofs.scheduler.begin.Goals as goal

pub returns-then-is_some-clause-begins : goal.returns-then-is_some-clause-begins
returns-then-is_some-clause-begins g c =
    let contents = g.O.Write.contents in
    begins_behind (λ text. text.items) c.args.carried g.V.Numbers.GeometryName.geometry c.args.volume.now.base _ _ c.args.begun c.take_shares.new.session c.in_ok-session.session
    (contents c.args.out.now) (contents c.take_shares.new.out) (sym c.is_some.ensures ∙ c.if-is_some.true) c.in_ok-session.ensures.lends c.in_ok-take_shares.ensures
