use Rattle.std.proofs.Common.{◌≡◌, ◌<◌, ◌⊎◌, ℕ, IsTrue}
use Rattle.image.specs.Image.{is_marked, summary_at, no_summary}
use Rattle.image.specs.View.{image_view}
use Rattle.image_checker.proofs.marks.unmarked_have_none.Given as goal

abbrev pub invariant-loop-a : goal.invariant-loop-a
invariant-loop-a l = (j : ℕ) → j < l.a
    → IsTrue (is_marked l.geometry (image_view l.image) j) ⊎ (summary_at (image_view l.image) j ≡ no_summary)
