use Rattle.std.proofs.Common.{refl}
use Rattle.nodes.specs.Change.{ticket_weight}
use Rattle.nodes.proofs.Changes.{branch_trades}
use Rattle.nodes.proofs.changing.BranchChanging.put.Goals as goal

pub returns-clause-change : goal.returns-clause-change
returns-clause-change g c =
    let C = g.C.Subtree in
    let old = c.in-Some.branch in
    let new = c.put.new.self in
    rw c.in-Some.is (
      branch_trades C.is_leaf C.number C.weight old.token old.entries.slots.items new.slots.items old.entries.dirty new.dirty
          (λ w. ticket_weight w c.put.result) (λ w. w.ticket c.args.ticket) c.put.ensures.change,
      λ no. refl,
    )
