use Rattle.std.proofs.Common.{map}
use Rattle.std.specs.Vec.Iter.{into_iter_items}
use Rattle.program_run.specs.PartJobs.{IsMade}
use Rattle.program_run.proofs.Zipping.{ZippedSo}
use Rattle.program_run.proofs.part.all_done.Given as goal

abbrev pub invariant-loop-end : goal.invariant-loop-end
invariant-loop-end g l =
    ZippedSo (IsMade (λ text. text.items) g.V.Numbers.GeometryName.geometry) (map (λ end. record { what = end.done; held = end.lent }) l.fn.ended.items)
    (map (λ made. record { what = made.text.items; held = made.lent }) l.all.items)
    (map (λ end. record { what = end.done; held = end.lent }) (into_iter_items l.end-iterator))
