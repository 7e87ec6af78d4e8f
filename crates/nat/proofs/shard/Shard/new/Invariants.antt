use Rattle.std.proofs.Common.{◌≡◌, ◌≤◌, None, replicate, vec_capacity}
use Rattle.nat.proofs.shard.Shard.new.Given as goal

abbrev pub invariant-loop-place : goal.invariant-loop-place
invariant-loop-place g l = (l.slots.items ≡ replicate l._place None) × (l.count ≤ vec_capacity l.slots)
