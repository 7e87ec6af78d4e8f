use Rattle.std.proofs.Common.{◌≡◌, None, replicate}
use Rattle.program_run.proofs.places.no_items.Given as goal

abbrev pub invariant-loop-place : goal.invariant-loop-place
invariant-loop-place g l = l.places.items ≡ replicate l._place None
