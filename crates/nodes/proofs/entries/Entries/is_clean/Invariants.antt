use Rattle.std.proofs.Common.{◌≡◌, ℕ, ◌<◌}
use Rattle.nodes.specs.Tree.{entry_at}
use Rattle.nodes.specs.Change.{each_marked}
use Rattle.nodes.proofs.entries.Entries.is_clean.Given as goal

abbrev pub invariant-loop-at : goal.invariant-loop-at
invariant-loop-at g l = (k : ℕ) → k < l.at → g.C.Subtree.weight each_marked (entry_at l.self.slots.items k) ≡ 0
