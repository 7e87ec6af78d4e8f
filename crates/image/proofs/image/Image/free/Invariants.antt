use Rattle.std.proofs.Common.{◌≡◌, ◌≤◌, count_by}
use Rattle.image.specs.Files.{below}
use Rattle.image.specs.Free.{is_free}
use Rattle.image.specs.View.{image_view}
use Rattle.image.proofs.image.Image.free.Given as goal

abbrev pub invariant-loop-segment : goal.invariant-loop-segment
invariant-loop-segment l = (l.free ≤ l.segment) × (l.free ≡ count_by (is_free (image_view l.self)) (below l.segment))
