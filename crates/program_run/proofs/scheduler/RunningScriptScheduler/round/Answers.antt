-- A round begins with what the parts of the last one handed back, and pauses at the next part, or halts: so what the rounds behind it
-- come to is what this one comes to.
use Rattle.std.proofs.Common.{◌≡◌, ◌∙◌, ap, map, refl, subst, sym, IfErr}
use Rattle.std.specs.Prelude.{false}
use Rattle.program_run.specs.Scheduler.{RanOn, first_of}
use Rattle.program_run.specs.Run.{names_line}
use Rattle.program_run.specs.declared.scheduler.Pause.TheVariants.{Part, Halt}
use Rattle.program_run.proofs.Pausing.{begins_as, paused_so}
use Rattle.program_run.proofs.Turning.{goes_on, halted_behind, may_begin}
use Rattle.program_run.proofs.scheduler.RunningScriptScheduler.round.Goals.{in-None, in-Some, in-Ok, in-Err}
use Rattle.program_run.proofs.scheduler.RunningScriptScheduler.round.Goals as goal

pub returns-in-Part-clause-done : goal.returns-in-Part-clause-done
returns-in-Part-clause-done g c =
    let contents = g.O.Write.contents in
    let geometry = g.V.Numbers.GeometryName.geometry in
    let base = c.args.volume.now.base in
    let self = c.args.self in
    let steps = self.steps.now in
    let first = c.match-begun.first in
    let kept = c.put.new.self in
    let part_jobs = map (λ part_job. record { what = part_job.part; held = part_job.lent }) c.in-Part.part_jobs.items in
    let paused = contents c.match-begin.out in
    let same : c.match-begun.begun ≡ self.begun = elim c.match-begun.branch [ in-None w ↦ w.begun-is | in-Some w ↦ w.begun-is ∙ sym w.in-Some.is ] in
    let from : first_of self.begun ≡ first = elim c.match-begun.branch [ in-None w ↦ ap first_of w.in-None.is ∙ sym w.first-is | in-Some w ↦ ap first_of w.in-Some.is ∙ sym w.first-is ] in
    elim c.match-begin.branch [
      | in-Ok w ↦
          let start = w.in-Ok.session in
          let told = contents c.begin.new.out in
          let begins = begins_as (λ text. text.items) (λ end. record { what = end.done; held = end.lent }) self.carried geometry base c.take-share.result c.args.lent.now c.replace-back.result c.args.ended.now
          c.match-begun.begun self.begun start (contents self.out.now) told c.take-share.ensures.taken c.replace-back.ensures.value same w.in-Ok.ensures.begins in
          let at = paused_so (λ part_job. record { what = part_job.part; held = part_job.lent }) contents steps geometry first start told c.match-begin.turned w.run_steps-turned.result c.in-Ok-turned.pause
          (Part c.in-Part.run' c.in-Part.time c.in-Part.part_jobs) c.in-Ok-turned.kept kept w.run_steps-turned.new.out c.match-begin.out w.turned-is c.in-Ok-turned.is c.in-Part.is c.put.ensures.put w.out-is
          w.run_steps-turned.ensures.pauses in
          record {
            may_run = may_begin geometry 0 at.workers.items at.now part_jobs at.rest at.given;
            may_go_on = λ ended did. goes_on (λ text. text.items) steps geometry first start told paused c.in-Part.run' c.in-Part.time part_jobs kept at ended did;
            may_fail = λ ended did error never. never;
            keeps = λ ended did output leave after next. (
              next.0,
              halted_behind (λ text. text.items) steps geometry first start told paused c.in-Part.run' c.in-Part.time part_jobs kept at ended did self.begun self.carried
                  (record { formatted = self.carried.formatted; time = c.in-Part.time; readers = self.carried.readers }) base c.args.lent.now
                  (map (λ end. record { what = end.done; held = end.lent }) c.args.ended.now.items) (contents self.out.now) (contents output.out.now) output.halt leave after from refl begins next.1,
            );
          }
      | in-Err w ↦ absurd (let no = sym w.turned-is ∙ c.in-Ok-turned.is in cc)
    ]

pub returns-in-Halt-clause-done : goal.returns-in-Halt-clause-done
returns-in-Halt-clause-done g c =
    let contents = g.O.Write.contents in
    let geometry = g.V.Numbers.GeometryName.geometry in
    let self = c.args.self in
    let steps = self.steps.now in
    let first = c.match-begun.first in
    let kept = c.put.new.self in
    let same : c.match-begun.begun ≡ self.begun = elim c.match-begun.branch [ in-None w ↦ w.begun-is | in-Some w ↦ w.begun-is ∙ sym w.in-Some.is ] in
    let from : first_of self.begun ≡ first = elim c.match-begun.branch [ in-None w ↦ ap first_of w.in-None.is ∙ sym w.first-is | in-Some w ↦ ap first_of w.in-Some.is ∙ sym w.first-is ] in
    elim c.match-begin.branch [
      | in-Ok w ↦
          let told = contents c.begin.new.out in
          let start = w.in-Ok.session in
          let halts = paused_so (λ part_job. record { what = part_job.part; held = part_job.lent }) contents steps geometry first start told c.match-begin.turned w.run_steps-turned.result c.in-Ok-turned.pause
          (Halt c.in-Halt.halt c.in-Halt.leave) c.in-Ok-turned.kept kept w.run_steps-turned.new.out c.match-begin.out w.turned-is c.in-Ok-turned.is c.in-Halt.is c.put.ensures.put w.out-is
          w.run_steps-turned.ensures.pauses in (
            refl,
            (
              record {
                start = start;
                told = told;
                middle = halts.0;
                begins = begins_as (λ text. text.items) (λ end. record { what = end.done; held = end.lent }) self.carried geometry c.args.volume.now.base c.take-share.result c.args.lent.now c.replace-back.result
                    c.args.ended.now c.match-begun.begun self.begun start (contents self.out.now) told c.take-share.ensures.taken c.replace-back.ensures.value same w.in-Ok.ensures.begins;
                ran = subst (λ n. RanOn steps geometry n start c.in-Halt.halt kept.passes told halts.0) (sym from) halts.1;
                left_so = halts.2;
              },
              tt,
            ),
          )
      | in-Err w ↦ absurd (let no = sym w.turned-is ∙ c.in-Ok-turned.is in cc)
    ]

pub returns-in-Err-turned-clause-done : goal.returns-in-Err-turned-clause-done
returns-in-Err-turned-clause-done g c =
    let says : names_line c.in-Err-turned.stop ≡ false = elim c.match-begin.branch [
      | in-Ok w ↦ subst (λ r. IfErr r (λ stop. names_line stop ≡ false)) (sym w.turned-is ∙ c.in-Err-turned.is) w.run_steps-turned.ensures.err
      | in-Err w ↦ subst (λ r. IfErr r (λ stop. names_line stop ≡ false)) (sym w.turned-is ∙ c.in-Err-turned.is) w.in-Err.ensures.err
    ] in
    (refl, (tt, says))
