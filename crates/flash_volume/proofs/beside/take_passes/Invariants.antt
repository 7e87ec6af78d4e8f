use Rattle.std.proofs.Common.{◌≡◌, ◌++◌}
use Rattle.std.specs.Vec.Iter.{into_iter_items}
use Rattle.flash_volume.specs.Beside.{passes_named, passes_unnamed}
use Rattle.flash_volume.proofs.beside.take_passes.Given as goal

-- what was taken, and what is to be taken yet
abbrev pub invariant-loop-pass : goal.invariant-loop-pass
invariant-loop-pass g l = record {
  taken : passes_named l.files l.fn.passes.items ≡ l.taken.items ++ passes_named l.files (into_iter_items l.pass-iterator);
  rest : passes_unnamed l.files l.fn.passes.items ≡ l.rest.items ++ passes_unnamed l.files (into_iter_items l.pass-iterator);
}
