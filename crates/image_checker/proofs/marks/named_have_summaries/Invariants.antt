use Rattle.std.proofs.Common.{◌≡◌, ◌<◌, ℕ, get_or}
use Rattle.geometry.specs.declared.owner.Mark.{Mark}
use Rattle.geometry.specs.Summary.{summary_of}
use Rattle.image.specs.Image.{summary_at}
use Rattle.image.specs.View.{image_view}
use Rattle.image_checker.proofs.marks.named_have_summaries.Given as goal

abbrev pub invariant-loop-name : goal.invariant-loop-name
invariant-loop-name l = (j : ℕ) (d : Mark) → j < l.name-index
    → summary_at (image_view l.image) (get_or l.names j d).address ≡ summary_of (get_or l.names j d).owner
