use Rattle.std.proofs.Common.{◌≡◌, ◌^◌, ◌-◌, take}
use Rattle.std.specs.Prelude.{min}
use Rattle.program_run.proofs.Counting.{there}
use Rattle.program_run.proofs.places.count_there.Given as goal

abbrev pub invariant-loop-place : goal.invariant-loop-place
invariant-loop-place g l = l.count ≡ min (there (take l.place-index l.places)) (2 ^ 32 - 1)
