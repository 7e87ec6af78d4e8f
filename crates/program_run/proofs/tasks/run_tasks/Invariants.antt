use Rattle.std.proofs.Common.{◌≡◌, take}
use Rattle.program_run.specs.Work.{Wrote}
use Rattle.program_run.specs.Tasks.{TasksWrite}
use Rattle.program_run.proofs.tasks.run_tasks.Given as goal

abbrev pub invariant-loop-task : goal.invariant-loop-task
invariant-loop-task g l =
    Wrote (TasksWrite l.fn.calls.worker (take l.task-index l.tasks) l.fn.share l.share) (g.W.Write.contents l.fn.out) (g.W.Write.contents l.out)
    × (l.calls.worker ≡ l.fn.calls.worker)
