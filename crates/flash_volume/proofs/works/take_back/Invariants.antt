use Rattle.std.proofs.Common.{◌≡◌, ◌+◌, ◌++◌, Ok, map, vec_len}
use Rattle.std.specs.List.{flat_map}
use Rattle.std.specs.Vec.Iter.{into_iter_items}
use Rattle.flash_volume.proofs.Dealing.{ZippedSo}
use Rattle.flash_volume.specs.Beside.{OneEnded}
use Rattle.geometry.specs.Weights.{weigh}
use Rattle.geometry.specs.declared.error.Error.{Error}
use Rattle.flash_volume.proofs.works.take_back.Given as goal

abbrev pub invariant-loop-end : goal.invariant-loop-end
invariant-loop-end g l = record {
  lost : (error : Error) → OneEnded (map (λ end. record { what = end.done; held = end.lent }) (into_iter_items l.end-iterator)) error
      → OneEnded (map (λ end. record { what = end.done; held = end.lent }) l.fn.ended.items) error;
  outputs : ZippedSo (λ end output. end.done ≡ Ok output) l.fn.ended.items l.outputs.items (into_iter_items l.end-iterator);
  seats : vec_len l.rights.seats + weigh (λ end. end.lent.seats) (into_iter_items l.end-iterator) ≡ vec_len l.fn.rights.seats + weigh (λ end. end.lent.seats) l.fn.ended.items;
  passes : l.fn.rights.passes.items ++ flat_map (λ end. end.lent.passes) l.fn.ended.items ≡ l.rights.passes.items ++ flat_map (λ end. end.lent.passes) (into_iter_items l.end-iterator);
}
