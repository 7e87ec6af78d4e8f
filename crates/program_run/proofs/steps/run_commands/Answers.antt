use Rattle.std.proofs.Common.{[], arith, subst, sym}
use Rattle.program_run.specs.Work.{Wrote}
use Rattle.program_run.specs.Run.{StepWrites}
use Rattle.program_run.proofs.Runs.{wrote_more}
use Rattle.program_run.proofs.steps.run_commands.Goals as goal

pub loop-step-preserved : goal.loop-step-preserved
loop-step-preserved g c =
    let contents = g.O.Write.contents in (
      omega (arith, c.loop-step.invariant.0),
      wrote_more c.args.steps.now c.loop-step.step-index c.step-item.result c.args.session.now c.loop-step.session c.run_command.new.session []
          (contents c.args.out.now) (contents c.loop-step.out) (contents c.run_command.new.out)
          c.loop-step-test.true c.step-item.is c.loop-step.invariant.1
          (subst (λ step. Wrote (StepWrites step c.loop-step.session c.run_command.new.session) (contents c.loop-step.out) (contents c.run_command.new.out)) (sym c.in-Command.is) c.in_ok-run_command.ensures),
    )
