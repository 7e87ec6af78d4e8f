use Rattle.std.proofs.Common.{Bool, ◌≡◌, ℕ, ◌≤◌, ◌+◌, ◌-◌, ◌*◌, None}
use Rattle.nodes.specs.Tree.{EmptyFrom, AsksPast, entry_at}
use Rattle.nodes.proofs.entries.Entries.prune.Given as goal

abbrev pub invariant-loop-at : goal.invariant-loop-at
invariant-loop-at g l = record {
  same : l.self ≡ l.fn.self;
  bound : l.at ≤ l.count;
  empty : (m : ℕ) → l.at ≤ m → EmptyFrom (g.C.Subtree.find l.entries (entry_at l.fn.self.slots.items m)) (l.from - m * l.span);
  useful : (m : ℕ) → l.at ≤ m → (asked : ℕ → ℕ → Bool) (first : ℕ) → AsksPast asked first (first + (l.from - m * l.span)) → g.C.Subtree.useful l.entries asked first (entry_at l.fn.self.slots.items m);
  nothing : (m : ℕ) → l.at ≤ m → l.from - m * l.span ≡ 0 → entry_at l.fn.self.slots.items m ≡ None;
}

abbrev pub decreases-loop-at : goal.decreases-loop-at
decreases-loop-at g l = l.at
