use Rattle.std.proofs.Common.{◌≡◌, ℕ, ◌-◌, ◌<◌, ◌≤◌}
use Rattle.nodes.specs.Tree.{entry_at}
use Rattle.nodes.specs.Change.{each_naming}
use Rattle.nodes.proofs.entries.Entries.migrate.Given as goal

abbrev pub invariant-loop-place : goal.invariant-loop-place
invariant-loop-place g l = record {
  same : l.self ≡ l.fn.self;
  ticket : l.ticket ≡ l.fn.ticket;
  bound : l.place ≤ l.count;
  unnamed : (k : ℕ) → k < l.place → g.C.Subtree.weight (each_naming l.nid l.at l.from) (entry_at l.fn.self.slots.items k) ≡ 0;
}

abbrev pub decreases-loop-place : goal.decreases-loop-place
decreases-loop-place g l = l.count - l.place
