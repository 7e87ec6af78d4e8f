use Rattle.nodes.proofs.Same.{with_slot-same}
use Rattle.nodes_walks.proofs.entries.lend_next_at.Goals as goal

pub returns-clause-same : goal.returns-clause-same
returns-clause-same g c =
    let same = with_slot-same c.args.below.now.slots c.args.place _ _ c.lend_next.ensures.same c.index_mut.ensures.value in
    λ k. record { dirty = c.args.below.now.dirty; slots = same k; marked = c.args.below.now.marked }
