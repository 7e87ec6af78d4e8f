use Rattle.image_checker.proofs.ZerosBehind.{HasZerosFrom}
use Rattle.image_checker.proofs.used.used_rows.Given as goal

abbrev pub invariant-loop-used : goal.invariant-loop-used
invariant-loop-used l = HasZerosFrom l.numbers l.used

abbrev pub decreases-loop-used : goal.decreases-loop-used
decreases-loop-used l = l.used
