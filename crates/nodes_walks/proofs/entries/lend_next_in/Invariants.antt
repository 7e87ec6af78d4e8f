use Rattle.std.proofs.Common.{◌≡◌, ◌*◌}
use Rattle.nodes_walks.proofs.Search.{Passed}
use Rattle.nodes_walks.proofs.entries.lend_next_in.Given as goal

abbrev pub invariant-loop-place : goal.invariant-loop-place
invariant-loop-place g l = record {
  same : l.below ≡ l.fn.below;
  passed : Passed (g.C.Subtree.find l.entries) l.span l.fn.below.slots.items l.from (l.place * l.span);
}
