use Rattle.std.proofs.Common.{◌+◌, length}
use Rattle.std.specs.Prelude.{filter, replicate}
use Rattle.std.specs.List.{flat_map}
use Rattle.image.specs.Walk.{walk, misfits, is_taken, up_to}
use Rattle.image_checker.specs.Marks.{Walked}
use Rattle.image.specs.View.{image_view}
use Rattle.image_checker.proofs.trees.mark_inodes.Given as goal

abbrev pub invariant-loop-k : goal.invariant-loop-k
invariant-loop-k l = Walked (image_view l.image) (replicate (length l.image.nat.items + 1) 0) l.marks
    (flat_map (misfits (image_view l.image)) (filter (is_taken (image_view l.image)) (up_to l.k)))
    (flat_map (walk (image_view l.image)) (filter (is_taken (image_view l.image)) (up_to l.k)))
