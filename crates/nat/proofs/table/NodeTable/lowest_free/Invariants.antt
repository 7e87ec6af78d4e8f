use Rattle.nat.specs.Taken.{AllTaken}
use Rattle.nat.proofs.table.NodeTable.lowest_free.Given as goal

abbrev pub invariant-loop-before : goal.invariant-loop-before
invariant-loop-before g l = AllTaken l.past l.before l.self.taken
