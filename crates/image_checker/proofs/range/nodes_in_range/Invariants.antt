use Rattle.std.proofs.Common.{◌<◌, ℕ, get_or}
use Rattle.std.specs.Prelude.{Option}
use Rattle.image.specs.declared.image.Node.{Node}
use Rattle.image.specs.Rules.{HasRange}
use Rattle.image.specs.View.{node_or_none}
use Rattle.image_checker.proofs.range.nodes_in_range.Given as goal

abbrev pub invariant-loop-slot : goal.invariant-loop-slot
invariant-loop-slot l = (j : ℕ) (d : Option Node) → j < l.slot-index → HasRange l.geometry (node_or_none (get_or l.nodes j d))
