use Rattle.std.proofs.Common.{◌≡◌, ◌<◌, ◌++◌, ◌-◌, length, take, true}
use Rattle.std.specs.List.{flat_map}
use Rattle.image.specs.Walk.{own_names, fits, names_below}
use Rattle.image.specs.Image.{node_of}
use Rattle.image.specs.View.{image_view}
use Rattle.image_checker.proofs.naming.NamesWithAddresses.+push_below.Given as goal

abbrev pub decreases-push_below : goal.decreases-push_below
decreases-push_below l = l.level

abbrev pub invariant-loop-child : goal.invariant-loop-child
invariant-loop-child l = record {
  so_far : l.self.names.items ≡ l.fn.self.names.items ++ (own_names (image_view l.image) l.nid
      ++ flat_map (names_below (image_view l.image) l.inode (l.level - 1)) (take l.child-index l.child-items));
  sized : length l.self.map.items ≡ length l.fn.self.map.items;
  children : l.child-items ≡ (node_of (image_view l.image) l.nid).children;
  fit : fits (image_view l.image) l.inode l.level l.nid ≡ true;
  deep : 0 < l.level;
}
