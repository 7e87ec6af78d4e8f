use Rattle.std.proofs.Common.{◌≡◌}
use Rattle.area.proofs.main_area.MainArea.take_past.Given as goal

abbrev pub invariant-loop-before : goal.invariant-loop-before
invariant-loop-before g l = l.hand ≡ l.initial.hand
