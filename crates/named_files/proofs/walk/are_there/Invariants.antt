use Rattle.named_files.proofs.Rows.{AreThereFrom}
use Rattle.named_files.proofs.walk.are_there.Given as goal

abbrev pub invariant-loop-entry : goal.invariant-loop-entry
invariant-loop-entry g l = AreThereFrom l.passes l.entries l.entry-index
