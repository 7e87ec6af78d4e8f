use Rattle.std.proofs.Common.{◌≡◌, ◌-◌, subst, arith}
use Rattle.program_run.specs.Work.{IsFilledTo}
use Rattle.program_run.proofs.Filling.{one_more}
use Rattle.program_run.proofs.session.Session.fill.Goals as goal

pub loop-index-preserved : goal.loop-index-preserved
loop-index-preserved g c =
    let low = c.loop-index.auto.index in
    let test = c.loop-index-test.true in
    (one_more c.args.self.now c.loop-index.self c.write.new.self c.args.file c.args.first c.loop-index.index c.args.byte low c.loop-index.invariant.0 c.in_ok-write.ensures.1, omega arith)

pub returns : goal.returns
returns g c =
    let low = c.loop-index.auto.index in
    let test = c.loop-index-test.false in
    let most = c.loop-index.invariant.1 in
    let all : c.loop-index.index - c.args.first ≡ c.args.last - c.args.first = omega arith in
    subst (λ count. IsFilledTo c.args.self.now c.args.file c.args.first count c.args.byte c.loop-index.self) all c.loop-index.invariant.0
