use Rattle.std.proofs.Common.{◌≡◌}
use Rattle.file_cells.specs.Status.{all}
use Rattle.file_cells.proofs.status.count_states.Given as goal

abbrev pub invariant-loop-number : goal.invariant-loop-number
invariant-loop-number g l = all l.status ≡ l.number
