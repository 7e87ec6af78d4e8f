use Rattle.std.proofs.Common.{◌≡◌, ◌++◌}
use Rattle.std.specs.Vec.Iter.{into_iter_items}
use Rattle.program_run.specs.Files.{passes_among}
use Rattle.program_run.proofs.places.keep_passes.Given as goal

abbrev pub invariant-loop-place : goal.invariant-loop-place
invariant-loop-place g l = passes_among l.fn.places.items ≡ l.passes.items ++ passes_among (into_iter_items l.place-iterator)
