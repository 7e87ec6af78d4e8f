use Rattle.std.proofs.Common.{◌≡◌, ◌++◌, ℕ, length, take}
use Rattle.std.specs.List.{flat_map}
use Rattle.image.specs.Walk.{names_below}
use Rattle.image.specs.View.{image_view}
use Rattle.image_checker.proofs.naming.NamesWithAddresses.push_places.Given as goal

abbrev pub invariant-loop-k : goal.invariant-loop-k
invariant-loop-k l = record {
  so_far : l.self.names.items ≡ l.fn.self.names.items ++ flat_map (λ (place : ℕ × ℕ). names_below (image_view l.image) l.inode place.0 place.1) (take l.k l.places);
  sized : length l.self.map.items ≡ length l.fn.self.map.items;
}
