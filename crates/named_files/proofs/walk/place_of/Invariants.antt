use Rattle.named_files.proofs.Places.{Passed}
use Rattle.named_files.proofs.walk.place_of.Given as goal

abbrev pub invariant-loop-place : goal.invariant-loop-place
invariant-loop-place g l = Passed l.number l.place l.passes
