use Rattle.std.proofs.Common.{◌≡◌, ◌++◌, map}
use Rattle.std.specs.Vec.Iter.{into_iter_items}
use Rattle.flash_volume.proofs.rounds.send.Given as goal

abbrev pub invariant-loop-part_job : goal.invariant-loop-part_job
invariant-loop-part_job g l = l.fn.part_jobs.items ≡ map (λ mounted_job. mounted_job.part_job) l.mounted_jobs.items ++ into_iter_items l.part_job-iterator
