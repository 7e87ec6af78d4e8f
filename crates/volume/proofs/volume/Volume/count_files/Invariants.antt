use Rattle.std.proofs.Common.{◌≤◌}
use Rattle.volume.proofs.volume.Volume.count_files.Given as goal

abbrev pub invariant-loop-number : goal.invariant-loop-number
invariant-loop-number g l = l.count ≤ l.number
