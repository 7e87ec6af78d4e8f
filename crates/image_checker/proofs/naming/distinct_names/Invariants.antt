use Rattle.std.proofs.Common.{◌≡◌, ◌+◌, length}
use Rattle.std.specs.Prelude.{filter}
use Rattle.std.specs.List.{flat_map}
use Rattle.geometry.specs.Area.{block_count}
use Rattle.image.specs.Walk.{walk, is_taken, up_to}
use Rattle.image.specs.View.{image_view}
use Rattle.image_checker.proofs.naming.distinct_names.Given as goal

abbrev pub invariant-loop-k : goal.invariant-loop-k
invariant-loop-k l = record {
  so_far : l.named.names.items ≡ flat_map (walk (image_view l.image)) (filter (is_taken (image_view l.image)) (up_to l.k));
  sized : length l.named.map.items ≡ block_count l.geometry + 1;
}
