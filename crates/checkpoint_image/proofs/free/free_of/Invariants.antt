use Rattle.std.proofs.Common.{◌≡◌, ◌≤◌, count_by}
use Rattle.image.specs.Files.{below}
use Rattle.image.specs.Free.{is_free}
use Rattle.image.specs.Image.{Image}
use Rattle.checkpoint_image.specs.Held.{infos_in}
use Rattle.checkpoint_image.proofs.free.free_of.Given as goal

abbrev pub invariant-loop-number : goal.invariant-loop-number
invariant-loop-number g l = (l.free ≤ l.number)
    × ((image : Image) → image.segments ≡ infos_in g.S.HoldsSegment.shown l.segments → image.logs ≡ l.logs → l.free ≡ count_by (is_free image) (below l.number))
