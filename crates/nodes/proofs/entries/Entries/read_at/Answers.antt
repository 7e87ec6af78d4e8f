use Rattle.nodes.proofs.Same.{with_slot-same}
use Rattle.nodes.proofs.entries.Entries.read_at.Goals as goal

pub returns-clause-same : goal.returns-clause-same
returns-clause-same g c =
    let same = with_slot-same c.args.self.now.slots c.args.at _ _ c.read.ensures.same c.index_mut.ensures.value in
    λ k. record { dirty = c.args.self.now.dirty; slots = same k; marked = c.args.self.now.marked }
