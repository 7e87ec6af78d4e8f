use Rattle.std.proofs.Common.{◌≡◌, ℕ, ◌<◌, length}
use Rattle.nodes.specs.Tree.{entry_at}
use Rattle.nodes.specs.Change.{each_marked}
use Rattle.nodes_walks.proofs.marked_entries.flush_entries.Given as goal

abbrev pub invariant-loop-place : goal.invariant-loop-place
invariant-loop-place g l = record {
  below : l.below ≡ l.fn.below;
  writer : l.writer ≡ l.fn.writer;
  room : length l.numbers ≡ length l.fn.numbers;
  inside : l.fn.from ≡ 0 → l.inside ≡ 0;
  clean : l.fn.from ≡ 0 → (k : ℕ) → k < l.place → g.C.Subtree.weight each_marked (entry_at l.fn.below.slots.items k) ≡ 0;
}
