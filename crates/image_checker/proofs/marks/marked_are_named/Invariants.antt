use Rattle.std.proofs.Common.{◌≡◌, ◌<◌, ℕ, get_or, IsTrue, true, false}
use Rattle.image.specs.Image.{is_marked}
use Rattle.image.specs.View.{image_view}
use Rattle.image_checker.proofs.marks.marked_are_named.Given as goal

abbrev pub invariant-loop-a : goal.invariant-loop-a
invariant-loop-a l = (j : ℕ) → j < l.a → IsTrue (is_marked l.geometry (image_view l.image) j) → get_or l.map j false ≡ true
