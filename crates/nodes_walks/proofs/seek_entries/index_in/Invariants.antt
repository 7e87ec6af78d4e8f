use Rattle.std.proofs.Common.{◌≡◌, ℕ, ◌<◌}
use Rattle.nodes.specs.Tree.{entry_at}
use Rattle.nodes.specs.Change.{each_naming}
use Rattle.nodes_walks.proofs.seek_entries.index_in.Given as goal

abbrev pub invariant-loop-place : goal.invariant-loop-place
invariant-loop-place g l = (k : ℕ) → k < l.place → g.C.Subtree.weight (each_naming l.nid l.at l.from) (entry_at l.below.slots.items k) ≡ 0
