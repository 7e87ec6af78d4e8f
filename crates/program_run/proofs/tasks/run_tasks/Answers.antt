use Rattle.std.proofs.Common.{◌∙◌, get_or, subst}
use Rattle.program_script.specs.declared.command.WorkerDeed.TheVariants.{Write}
use Rattle.program_script.specs.declared.script.WorkerTask.{WorkerTask}
use Rattle.program_run.specs.Work.{Wrote}
use Rattle.program_run.specs.Tasks.{TaskWrites}
use Rattle.program_run.proofs.Doing.{wrote_more}
use Rattle.program_run.proofs.tasks.run_tasks.Goals as goal

pub loop-task-preserved : goal.loop-task-preserved
loop-task-preserved g c =
    let contents = g.W.Write.contents in
    let tasks = c.args.tasks.now in
    let place = c.loop-task.task-index in
    let none : WorkerTask = record { line = 0; work = Write 0 0 0 } in
    let before = c.loop-task.invariant in
    let number = c.args.calls.now.worker in
    let told = subst (λ n. Wrote (TaskWrites n (get_or tasks place none).work c.loop-task.share c.run_task.new.share) (contents c.loop-task.out) (contents c.run_task.new.out))
    before.1 c.in_ok-run_task.ensures.told in (
      wrote_more number tasks place c.args.share.now c.loop-task.share c.run_task.new.share none (contents c.args.out.now) (contents c.loop-task.out) (contents c.run_task.new.out)
          c.loop-task-test.true before.0 told,
      c.in_ok-run_task.ensures.worker ∙ before.1,
    )
