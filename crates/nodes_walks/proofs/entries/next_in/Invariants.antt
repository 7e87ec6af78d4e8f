use Rattle.std.proofs.Common.{◌*◌}
use Rattle.nodes_walks.proofs.Search.{Passed}
use Rattle.nodes_walks.proofs.entries.next_in.Given as goal

abbrev pub invariant-loop-place : goal.invariant-loop-place
invariant-loop-place g l = Passed (g.C.Subtree.find l.entries) l.span l.fn.below.slots.items l.from (l.place * l.span)
