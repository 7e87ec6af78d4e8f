use Rattle.nodes.proofs.Counting.{count_tells}
use Rattle.nodes.proofs.branch.BranchSubtree.has_mark.Goals as goal

pub returns-else-branch : goal.returns-else-branch
returns-else-branch g c = λ e shaped.
    let b = c.in-Some.branch in
    let is = rw c.in-Some.is at shaped in
    rw c.in-Some.is (count_tells g.C.Subtree.weight b.entries.slots.items b.entries.marked is.1 b.entries.dirty c.if-branch.false)
