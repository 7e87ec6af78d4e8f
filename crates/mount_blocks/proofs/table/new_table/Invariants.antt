use Rattle.std.proofs.Common.{◌≡◌, ◌≤◌, None, replicate, vec_capacity}
use Rattle.mount_blocks.proofs.table.new_table.Given as goal

abbrev pub invariant-loop-place : goal.invariant-loop-place
invariant-loop-place g l = (l.table.items ≡ replicate l._place None) × (l.places ≤ vec_capacity l.table)
