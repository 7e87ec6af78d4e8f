use Rattle.std.proofs.Common.{◌≡◌, ◌<◌, ◌-◌, ◌*◌, ℕ, get_or}
use Rattle.geometry.specs.Path.{node_entries}
use Rattle.image.specs.Image.{node_of}
use Rattle.image.specs.View.{image_view}
use Rattle.image_checker.specs.Lengths.{span, EndsBelow}
use Rattle.image_checker.proofs.lengths.+ends_below.Given as goal

abbrev pub decreases-ends_below : goal.decreases-ends_below
decreases-ends_below l = l.level

abbrev pub invariant-loop-child : goal.invariant-loop-child
invariant-loop-child l = record {
  left : l.left ≡ l.limit - l.child-index * span (node_entries l.geometry.shape) (l.level - 1);
  each : (j : ℕ) → j < l.child-index → EndsBelow (image_view l.image) (node_entries l.geometry.shape) (l.level - 1) (get_or l.child-items j 0)
      (l.limit - j * span (node_entries l.geometry.shape) (l.level - 1));
  children : l.child-items ≡ (node_of (image_view l.image) l.nid).children;
  deep : 0 < l.level;
  reach : l.below ≡ span (node_entries l.geometry.shape) (l.level - 1);
}
