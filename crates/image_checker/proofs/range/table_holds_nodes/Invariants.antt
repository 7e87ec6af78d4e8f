use Rattle.std.proofs.Common.{◌<◌, ℕ, IsTrue}
use Rattle.image.specs.Walk.{is_taken}
use Rattle.image.specs.Rules.{IsNodeOf}
use Rattle.image.specs.View.{image_view}
use Rattle.image_checker.proofs.range.table_holds_nodes.Given as goal

abbrev pub invariant-loop-nid : goal.invariant-loop-nid
invariant-loop-nid l = (j : ℕ) → j < l.nid → IsTrue (is_taken (image_view l.image) j) → IsNodeOf l.geometry (image_view l.image) j
