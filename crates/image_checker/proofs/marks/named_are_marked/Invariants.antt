use Rattle.std.proofs.Common.{◌<◌, ℕ, get_or, IsTrue}
use Rattle.geometry.specs.declared.owner.Mark.{Mark}
use Rattle.image.specs.Image.{is_marked}
use Rattle.image.specs.View.{image_view}
use Rattle.image_checker.proofs.marks.named_are_marked.Given as goal

abbrev pub invariant-loop-k : goal.invariant-loop-k
invariant-loop-k l = (j : ℕ) (d : Mark) → j < l.k → IsTrue (is_marked l.geometry (image_view l.image) (get_or l.names j d).address)
