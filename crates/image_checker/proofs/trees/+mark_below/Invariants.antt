use Rattle.std.proofs.Common.{◌≡◌, ◌<◌, ◌-◌, take, true}
use Rattle.std.specs.List.{flat_map}
use Rattle.image.specs.Walk.{fits, names_below, misfits_below}
use Rattle.image_checker.specs.Marks.{Walked}
use Rattle.image.specs.Image.{node_of}
use Rattle.image.specs.View.{image_view}
use Rattle.image_checker.proofs.trees.+mark_below.Given as goal

abbrev pub decreases-mark_below : goal.decreases-mark_below
decreases-mark_below l = l.level

abbrev pub invariant-loop-child : goal.invariant-loop-child
invariant-loop-child l = record {
  so_far : Walked (image_view l.image) l.fn.marks l.marks
      (flat_map (misfits_below (image_view l.image) l.inode (l.level - 1)) (take l.child-index l.child-items))
      (flat_map (names_below (image_view l.image) l.inode (l.level - 1)) (take l.child-index l.child-items));
  children : l.child-items ≡ (node_of (image_view l.image) l.nid).children;
  fit : fits (image_view l.image) l.inode l.level l.nid ≡ true;
  deep : 0 < l.level;
}
