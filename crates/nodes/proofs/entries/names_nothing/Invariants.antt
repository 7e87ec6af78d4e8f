use Rattle.std.proofs.Common.{◌≡◌, ℕ, ◌<◌, None}
use Rattle.nodes.specs.Tree.{entry_at}
use Rattle.nodes.proofs.entries.names_nothing.Given as goal

abbrev pub invariant-loop-at : goal.invariant-loop-at
invariant-loop-at g l = (k : ℕ) → k < l.at → entry_at l.slots.items k ≡ None
