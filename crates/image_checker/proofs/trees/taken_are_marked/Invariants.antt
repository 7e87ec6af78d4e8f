use Rattle.std.proofs.Common.{◌≢◌, ◌<◌, ℕ, get_or, IsTrue}
use Rattle.image.specs.Walk.{is_taken}
use Rattle.image.specs.View.{image_view}
use Rattle.image_checker.proofs.trees.taken_are_marked.Given as goal

abbrev pub invariant-loop-nid : goal.invariant-loop-nid
invariant-loop-nid l = (j : ℕ) → j < l.nid → IsTrue (is_taken (image_view l.image) j) → get_or l.marks j 0 ≢ 0
