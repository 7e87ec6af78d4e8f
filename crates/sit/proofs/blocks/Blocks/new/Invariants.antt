use Rattle.std.proofs.Common.{◌≡◌, ◌≤◌, None, replicate, vec_capacity}
use Rattle.sit.proofs.blocks.Blocks.new.Given as goal

abbrev pub invariant-loop-place : goal.invariant-loop-place
invariant-loop-place g l = (l.blocks.items ≡ replicate l._place None) × (l.count ≤ vec_capacity l.blocks)
