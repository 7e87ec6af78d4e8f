use Rattle.nodes.specs.Tree.{AreNone}
use Rattle.nodes.proofs.slots.Slots.destroy.Given as goal

abbrev pub invariant-loop-slot : goal.invariant-loop-slot
invariant-loop-slot g l = AreNone l.stored.items

abbrev pub decreases-loop-slot : goal.decreases-loop-slot
decreases-loop-slot g l = goal.left-loop-slot g l
