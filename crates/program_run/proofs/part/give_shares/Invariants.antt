use Rattle.std.proofs.Common.{map, take}
use Rattle.program_run.specs.PartJobs.{AreGiven}
use Rattle.program_run.proofs.part.give_shares.Given as goal

abbrev pub invariant-loop-number : goal.invariant-loop-number
invariant-loop-number g l =
    AreGiven g.V.Numbers.GeometryName.geometry 0 (take l.number l.workers) l.fn.session (map (λ part_job. record { what = part_job.part; held = part_job.lent }) l.part_jobs.items) l.session
