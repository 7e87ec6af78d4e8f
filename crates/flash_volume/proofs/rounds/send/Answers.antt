-- Each job was sent: none is left.
use Rattle.std.proofs.Common.{◌≡◌, [], arith}
use Rattle.std.proofs.lemmas.List.{nil_from_length}
use Rattle.std.specs.Vec.Iter.{into_iter_items}
use Rattle.flash_volume.proofs.Dealing.{sent_all}
use Rattle.flash_volume.proofs.rounds.send.Goals as goal

pub returns : goal.returns
returns g c =
    let others = into_iter_items c.loop-part_job.part_job-iterator in
    let none : others ≡ [] = nil_from_length others (omega (arith, c.in-None.ensures.steps.0, c.loop-part_job.part_job-iterator.rest.ok)) in
    sent_all (λ mounted_job. mounted_job.part_job) c.args.part_jobs.items others c.loop-part_job.mounted_jobs.items none c.loop-part_job.invariant
