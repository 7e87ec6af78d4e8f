use Rattle.std.proofs.Common.{◌≡◌, ◌≢◌, ℕ, ◌<◌, Some, None, get_or}
use Rattle.image.specs.declared.image.LogHead.{LogHead}
use Rattle.mount_blocks.proofs.owners.log_in.Given as goal

abbrev pub invariant-loop-log : goal.invariant-loop-log
invariant-loop-log l = (k : ℕ) (place : LogHead) → k < l.log → get_or l.image.logs.items k None ≡ Some place → place.segment ≢ l.segment
