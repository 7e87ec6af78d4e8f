use Rattle.std.proofs.Common.{◌≡◌, ℕ, ◌<◌}
use Rattle.nodes.specs.Tree.{entry_at}
use Rattle.nodes_walks.specs.Moving.{each_numbered}
use Rattle.nodes_walks.proofs.seek_entries.visit_in.Given as goal

abbrev pub invariant-loop-place : goal.invariant-loop-place
invariant-loop-place g l = record {
  below : l.below ≡ l.fn.below;
  visitor : l.visitor ≡ l.fn.visitor;
  none : (k : ℕ) → k < l.place → g.C.Subtree.weight (each_numbered l.nid) (entry_at l.fn.below.slots.items k) ≡ 0;
}
