use Rattle.std.proofs.Common.{◌≡◌, ◌+◌, ◌++◌, map, vec_len}
use Rattle.std.specs.Vec.Iter.{into_iter_items}
use Rattle.geometry.specs.Weights.{weigh}
use Rattle.flash_volume.proofs.Dealing.{DealtSo}
use Rattle.flash_volume.proofs.beside.deal.Given as goal

abbrev pub invariant-loop-beside : goal.invariant-loop-beside
invariant-loop-beside g l = record {
  seats : vec_len l.fn.rights.seats ≡ vec_len l.rights.seats + weigh (λ part_job. part_job.lent.seats) l.part_jobs.items;
  works : map (λ beside. beside.work) l.fn.works.items ≡ map (λ part_job. part_job.part.work) l.part_jobs.items ++ map (λ beside. beside.work) (into_iter_items l.beside-iterator);
  dealt : DealtSo (map (λ beside. beside.files.items) l.fn.works.items) l.fn.rights.passes.items (map (λ part_job. part_job.lent.passes) l.part_jobs.items)
      (map (λ beside. beside.files.items) (into_iter_items l.beside-iterator)) l.rights.passes.items;
}
