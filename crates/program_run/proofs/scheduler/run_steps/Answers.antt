-- A round ends with a part, or where the steps halt: what was run before it is told of the steps behind the first one.
use Rattle.std.proofs.Common.{◌≡◌, ◌∙◌, ◌+◌, ◌-◌, [], ap, arith, drop, inr, length, map, refl, subst, sym, take}
use Rattle.flash_volume.specs.Rounds.{Held}
use Rattle.program_run.specs.Files.{Lends}
use Rattle.program_run.specs.PartJobs.{AreGiven}
use Rattle.program_run.specs.Scheduler.{IsLeave}
use Rattle.program_run.specs.Run.{IsPaused, WroteSteps}
use Rattle.program_run.proofs.Going.{rest_is}
use Rattle.program_run.proofs.Pausing.{ahead, halts, leaves}
use Rattle.program_run.proofs.scheduler.run_steps.Goals.{then-run-steps, else-run-steps+in_ok-leave}
use Rattle.program_run.proofs.scheduler.run_steps.Goals as goal

pub returns-in-Some-clause-pauses : goal.returns-in-Some-clause-pauses
returns-in-Some-clause-pauses g c =
    let contents = g.O.Write.contents in
    let steps = c.args.steps.now in
    let geometry = g.V.Numbers.GeometryName.geometry in
    let more = c.in_ok-more.more in
    let now = c.run_commands.new.session in
    let rest = c.give_shares.new.session in
    let part = c.in-Some.ensures.part in
    record {
      more = more;
      line = part.0;
      workers = part.1;
      now = now;
      rest = rest;
      part_is = refl;
      at = ahead steps c.args.first more _ part.2;
      ran = subst (λ xs. WroteSteps (take more xs) c.args.session now [] (contents c.args.out.now) (contents c.run_commands.new.out)) (rest_is steps c.args.first) c.in_ok-more.ensures.done;
      given = subst (λ workers. AreGiven geometry 0 workers now (map (λ part_job. record { what = part_job.part; held = part_job.lent }) c.in_ok-part_jobs.part_jobs.items) rest) part.3 c.in_ok-part_jobs.ensures;
      lends = subst (λ time. Lends geometry time rest c.in_ok-kept.kept) (sym c.time-time.ensures) c.in_ok-kept.ensures.lends;
    }

pub returns-clause-pauses : goal.returns-clause-pauses
returns-clause-pauses g c =
    let contents = g.O.Write.contents in
    let steps = c.args.steps.now in
    let first = c.args.first in
    let more = c.in_ok-more.more in
    let now = c.run_commands.new.session in
    let old = contents c.args.out.now in
    let middle = contents c.run_commands.new.out in
    let lends = c.in_ok-end.ensures.lends in
    let readers = c.split-rights.result.1 in
    let paused = subst (λ xs. IsPaused xs more now.readers) (rest_is steps first) c.in_ok-more.ensures.paused in
    let halted = halts steps first more now.readers c.requires.first c.in_default.ensures.none paused in (
      middle,
      record {
        end = now;
        above = omega arith;
        ran = subst (λ n. WroteSteps (take n (drop first steps)) c.args.session now [] old middle) (omega arith)
            (subst (λ xs. WroteSteps (take more xs) c.args.session now [] old middle) (rest_is steps first) c.in_ok-more.ensures.done);
        placed = lends.placed;
        numbers = lends.numbers;
        passes_are = ap (λ (held : Held). held.passes) c.new-kept.ensures ∙ c.split-rights.ensures.passes ∙ sym lends.passes_are;
        time_is = sym c.time-time-2.ensures;
        readers_are = ap length (lends.readers_are ∙ sym c.split-rights.ensures.readers) ∙ sym readers.ok.0 ∙ sym c.len.ensures;
        later_is = refl;
        halted = halted;
      },
      elim c.if-run-steps.branch [
        | then-run-steps w ↦ inr (omega (arith, w.if-run-steps.true), w.leave-is, ap contents w.out-is)
        | else-run-steps+in_ok-leave w ↦
            subst (λ leave. IsLeave steps (first + more) leave middle (contents c.if-run-steps.out)) (sym w.leave-is)
            (subst (λ out. IsLeave steps (first + more) w.in_ok-leave.leave middle (contents out)) (sym w.out-is)
            (leaves steps (first + more) now.readers w.in_ok-leave.leave middle (contents w.leave_so.new.out) halted (omega (arith, w.if-run-steps.false)) w.in_ok-leave.ensures.leave))
      ],
    )
