use Rattle.std.proofs.Common.{arith}
use Rattle.nodes.specs.Change.{each_marked}
use Rattle.nodes.proofs.Changes.{weigh_used}
use Rattle.nodes_walks.proofs.marked_entries.flush_entries.Goals as goal

pub returns-clause-clean : goal.returns-clause-clean
returns-clause-clean g c = λ _. (
  λ front. weigh_used (g.C.Subtree.weight each_marked) c.args.below.now.slots.items c.end-place-end.result (g.met.C.Subtree.weight_none each_marked) c.end-place-end.ensures.nothing
      (λ k h. c.loop-place.invariant.clean front k (omega arith)),
  c.loop-place.invariant.below,
  c.loop-place.invariant.writer,
)
