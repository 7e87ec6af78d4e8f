use Rattle.std.proofs.Common.{◌≡◌}
use Rattle.file_cells.proofs.Noted.{ArePinnedTo}
use Rattle.file_cells.proofs.take.pin_all.Given as goal

abbrev pub invariant-loop-segment : goal.invariant-loop-segment
invariant-loop-segment g l = record {
  account : l.account ≡ l.fn.account;
  so : ArePinnedTo l.noted l.segment l.seat.held;
}
