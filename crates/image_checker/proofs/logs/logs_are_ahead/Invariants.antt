use Rattle.std.proofs.Common.{◌<◌, ◌≤◌, ℕ, IsTrue, get_or}
use Rattle.std.specs.Prelude.{Option, IfSome}
use Rattle.image.specs.declared.image.LogHead.{LogHead}
use Rattle.geometry.specs.Address.{address_of}
use Rattle.image.specs.Image.{is_marked}
use Rattle.image.specs.View.{image_view}
use Rattle.geometry.specs.Shape.{segment_blocks}
use Rattle.image_checker.proofs.logs.logs_are_ahead.Given as goal

abbrev pub invariant-loop-log : goal.invariant-loop-log
invariant-loop-log l = (j : ℕ) (d : Option LogHead) → j < l.log-index → IfSome (get_or l.image.logs.items j d) (λ place. (o : ℕ) → place.next ≤ o → o < segment_blocks l.geometry.shape
    → ¬ IsTrue (is_marked l.geometry (image_view l.image) (address_of l.geometry.shape place.segment o)))
