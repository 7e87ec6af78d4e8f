use Rattle.std.proofs.Common.{arith, refl}
use Rattle.program_run.proofs.Pausing.{none_past, none_there, there}
use Rattle.program_run.proofs.scheduler.part_at.Goals as goal

pub returns-then-run-steps-clause-none : goal.returns-then-run-steps-clause-none
returns-then-run-steps-clause-none c = none_past c.args.steps.now c.args.run (omega (arith, c.if-run-steps.true))

pub returns-in-Part-clause-part : goal.returns-in-Part-clause-part
returns-in-Part-clause-part c = (
  c.in-Part.line,
  c.in-Part.workers,
  there c.args.steps.now c.args.run c.index-steps-run.result _ (omega (arith, c.if-run-steps.false)) c.index-steps-run.is c.in-Part.is,
  c.as_slice.ensures.value,
)

pub returns-in-Command-clause-none : goal.returns-in-Command-clause-none
returns-in-Command-clause-none c = none_there c.args.steps.now c.args.run c.index-steps-run.result _ c.index-steps-run.is c.in-Command.is refl
