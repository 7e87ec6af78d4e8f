-- Each job may be done, since its part may; and once all have ended so, the scheduler may go on, and keeps what it promised.
use Rattle.std.proofs.Common.{All, List, [], map, sym, subst, vec_len}
use Rattle.file_cells.specs.Pass.{Pass}
use Rattle.flash_volume.proofs.Dealing.{all_mapped, part_jobs_ended}
use Rattle.flash_volume.proofs.rounds.run_rounds.Goals as goal

pub do_side_by_side-requires-after_bounds : goal.do_side_by_side-requires-after_bounds
do_side_by_side-requires-after_bounds g c κs within =
    let geometry = g.V.Numbers.GeometryName.geometry in
    let asks = rw c.in-Beside.is at c.in_ok-next.ensures.done in
    let part_jobs = c.in-Beside.part_jobs.items in
    let mounted_jobs = c.in_ok-mounted_jobs-in-Beside.mounted_jobs.items in
    let sent = c.in_ok-mounted_jobs-in-Beside.ensures in
    all_mapped (λ part_job. g.X.Part.ScheduledPart.fits part_job.part geometry part_job.lent) (λ mounted_job. mounted_job.part_job) mounted_jobs
    (subst (λ ds. All (λ part_job. g.X.Part.ScheduledPart.fits part_job.part geometry part_job.lent) ds) (sym sent)
    (all_mapped (λ part. g.X.Part.ScheduledPart.fits part.what geometry part.held) (λ part_job. record { what = part_job.part; held = part_job.lent }) part_jobs asks.may_run))

pub loop-preserved : goal.loop-preserved
loop-preserved g c =
    let geometry = g.V.Numbers.GeometryName.geometry in
    let asks = rw c.in-Beside.is at c.in_ok-next.ensures.done in
    let zip = part_jobs_ended (λ mounted_job end. g.X.Part.ScheduledPart.did mounted_job.part_job.part geometry mounted_job.part_job.lent end.done end.lent)
    (λ part end. g.X.Part.ScheduledPart.did part.what geometry part.held end.what end.held) (λ mounted_job. mounted_job.part_job) (λ part_job. record { what = part_job.part; held = part_job.lent })
    (λ end. record { what = end.done; held = end.lent }) (λ mounted_job end did. did) c.in-Beside.part_jobs.items c.in_ok-mounted_jobs-in-Beside.mounted_jobs.items c.in_ok-ended-in-Beside.ended.items
    c.in_ok-mounted_jobs-in-Beside.ensures c.in_ok-ended-in-Beside.ensures in
    record {
      fits = asks.may_go_on _ zip;
      may_fail = λ error failed. c.loop.invariant.may_fail error (asks.may_fail _ zip error failed);
      keeps = λ output leave after did. c.loop.invariant.keeps output leave after (asks.keeps _ zip output leave after did);
    }

pub returns-in-Over-clause-done : goal.returns-in-Over-clause-done
returns-in-Over-clause-done g c =
    subst (λ (after : List Pass). g.X.Scheduler.did c.args.scheduler g.V.Numbers.GeometryName.geometry c.args.volume.now.base (record { passes = c.args.rights.passes.items; seats = vec_len c.args.rights.seats; readers = [] }) [] c.in-Over.output c.in-Over.leave after)
    (sym c.split-rights.ensures.passes) (c.loop.invariant.keeps _ _ _ (rw c.in-Over.is at c.in_ok-next.ensures.done))
