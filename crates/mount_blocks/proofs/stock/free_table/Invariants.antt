use Rattle.std.proofs.Common.{◌≡◌, vec_len}
use Rattle.geometry.specs.Weights.{weigh}
use Rattle.mount_blocks.specs.TreeGoods.{in_place}
use Rattle.mount_blocks.proofs.stock.free_table.Given as goal

abbrev pub invariant-loop-place : goal.invariant-loop-place
invariant-loop-place g l = weigh (in_place (λ _. 1)) l.table.items ≡ 0

abbrev pub decreases-loop-place : goal.decreases-loop-place
decreases-loop-place g l = vec_len l.table
