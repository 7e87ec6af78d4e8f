use Rattle.std.proofs.Common.{arith}
use Rattle.nodes_walks.specs.Moving.{each_numbered}
use Rattle.nodes.proofs.Changes.{weigh_used}
use Rattle.nodes_walks.proofs.seek_entries.visit_in.Goals as goal

pub returns-clause-none : goal.returns-clause-none
returns-clause-none g c = λ _. (
  weigh_used (g.C.Subtree.weight (each_numbered c.args.nid)) c.args.below.now.slots.items c.end-place-end.result (g.met.C.Subtree.weight_none (each_numbered c.args.nid)) c.end-place-end.ensures.nothing
      (λ k h. c.loop-place.invariant.none k (omega arith)),
  c.loop-place.invariant.below,
  c.loop-place.invariant.visitor,
)
