use Rattle.std.proofs.Common.{◌≡◌, [], take}
use Rattle.program_run.specs.Run.{WroteSteps}
use Rattle.program_run.proofs.steps.run_commands.Given as goal

abbrev pub invariant-loop-step : goal.invariant-loop-step
invariant-loop-step g l =
    (l.run ≡ l.step-index) × WroteSteps (take l.step-index l.steps) l.fn.session l.session [] (g.O.Write.contents l.fn.out) (g.O.Write.contents l.out)
