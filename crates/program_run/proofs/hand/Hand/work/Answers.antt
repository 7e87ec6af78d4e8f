-- The session is made of what is lent, and ended into what is handed back; the text was empty, so it is what the tasks told.
use Rattle.std.proofs.Common.{◌≡◌, ◌∙◌, ◌++◌, ap, subst, sym, IfOk}
use Rattle.program_run.specs.Files.{Lends}
use Rattle.program_run.specs.PartJobs.{Hand, IsDone}
use Rattle.program_run.specs.Tasks.{TasksWrite}
use Rattle.program_run.proofs.hand.Hand.work.Goals as goal

pub returns : goal.returns
returns g c =
    let geometry = g.V.Numbers.GeometryName.geometry in
    let number = c.self.inside.number in
    let tasks = c.self.inside.tasks.now in
    let time = c.self.inside.time in
    let share = c.in_ok-share.share in
    let left = c.run_tasks.new.share in
    let text = c.run_tasks.new.out.items in
    let wrote = c.in_ok-run_tasks.ensures in
    let told : text ≡ wrote.line = wrote.told ∙ ap (λ old. old ++ wrote.line) c.new-text.ensures.items in
    subst (λ (hand : Hand). IsDone geometry hand c.args.lent text c.in_ok-back.back) c.self.view_is
    (record {
      share = share;
      lent_is = subst (λ made. IfOk made (λ session. Lends geometry time session c.args.lent)) c.in_ok-share.ensures c.of.ensures.lends;
      left = left;
      back_is = subst (λ made. IfOk made (λ lent. Lends geometry left.time left lent)) c.in_ok-back.ensures c.end.ensures.lends;
      wrote = subst (λ lines. TasksWrite number tasks share left lines) (sym told) (subst (λ worker. TasksWrite worker tasks share left wrote.line) c.new-calls.ensures wrote.is_line);
    })
