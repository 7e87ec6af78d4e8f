use Rattle.std.proofs.Common.{◌≡◌}
use Rattle.area.proofs.main_area.MainArea.thread_any.Given as goal

abbrev pub invariant-loop-number : goal.invariant-loop-number
invariant-loop-number g l = l.hand ≡ l.fn.hand
