use Rattle.std.proofs.Common.{◌≡◌, ◌≤◌, None, replicate, vec_capacity}
use Rattle.mount_blocks.proofs.settling.LoadedSegments.new.Given as goal

abbrev pub invariant-loop-log : goal.invariant-loop-log
invariant-loop-log g l = (l.logs.items ≡ replicate l._log None) × (6 ≤ vec_capacity l.logs)
