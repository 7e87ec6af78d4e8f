use Rattle.std.proofs.Common.{◌<◌, ◌≤◌, ℕ, IsTrue}
use Rattle.geometry.specs.Address.{address_of}
use Rattle.image.specs.Image.{is_marked}
use Rattle.image.specs.View.{image_view}
use Rattle.image_checker.proofs.logs.log_is_ahead.Given as goal

abbrev pub invariant-loop-offset : goal.invariant-loop-offset
invariant-loop-offset l = (o : ℕ) → l.place.next ≤ o → o < l.offset
    → ¬ IsTrue (is_marked l.geometry (image_view l.image) (address_of l.geometry.shape l.place.segment o))
