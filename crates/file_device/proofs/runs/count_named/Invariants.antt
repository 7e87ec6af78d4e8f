use Rattle.std.proofs.Common.{◌<◌, ◌≤◌, max}
use Rattle.file_device.proofs.runs.count_named.Given as goal

abbrev pub invariant-loop-is_named : goal.invariant-loop-is_named
invariant-loop-is_named l = (0 < l.count) × (l.count ≤ max 1 l.most)
