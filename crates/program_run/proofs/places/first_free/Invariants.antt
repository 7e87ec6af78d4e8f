use Rattle.std.proofs.Common.{ℕ, ◌<◌, None, IsSome, get_or}
use Rattle.program_run.proofs.places.first_free.Given as goal

abbrev pub invariant-loop-place : goal.invariant-loop-place
invariant-loop-place g l = (k : ℕ) → k < l.place → IsSome (get_or l.passes k None)
