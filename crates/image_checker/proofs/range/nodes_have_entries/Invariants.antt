use Rattle.std.proofs.Common.{◌≡◌, ◌<◌, ℕ}
use Rattle.image.specs.Image.{no_node, entry_of, node_of}
use Rattle.image.specs.View.{image_view}
use Rattle.image_checker.proofs.range.nodes_have_entries.Given as goal

abbrev pub invariant-loop-nid : goal.invariant-loop-nid
invariant-loop-nid l = (j : ℕ) → j < l.nid → (entry_of (image_view l.image) j).address ≡ 0 → node_of (image_view l.image) j ≡ no_node
