use Rattle.file_cells.proofs.Noted.{AreLetGo}
use Rattle.file_cells.proofs.reader.Reader.close.Given as goal

abbrev pub invariant-loop-segment : goal.invariant-loop-segment
invariant-loop-segment g l = AreLetGo l.pinned.items l.segment l.seat.held
