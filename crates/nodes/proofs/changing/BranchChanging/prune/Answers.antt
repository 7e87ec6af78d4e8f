use Rattle.std.proofs.Common.{◌≡◌, None, refl, sym, map, arith}
use Rattle.nodes.specs.Change.{tree_node, nothing}
use Rattle.nodes.specs.Laws.{no_leaf}
use Rattle.nodes.proofs.Changes.{branch_trades, weigh_nothing}
use Rattle.nodes.proofs.changing.BranchChanging.prune.Goals as goal

pub returns-in-Found-clause-change : goal.returns-in-Found-clause-change
returns-in-Found-clause-change g c =
    let C = g.C.Subtree in
    let old = c.in-Some.branch in
    let new = c.prune-pruned.new.self in
    let done = c.in-Found.ensures.change in
    rw c.in-Some.is (
      done.0,
      done.1,
      (branch_trades C.is_leaf C.number C.weight old.token old.entries.slots.items new.slots.items old.entries.dirty new.dirty done.0 nothing done.2, λ no. refl),
    )

pub returns-in-Some-take-clause-change : goal.returns-in-Some-take-clause-change
returns-in-Some-take-clause-change g c =
    let C = g.C.Subtree in
    let old = c.in-Some.branch in
    let node = tree_node C.is_leaf old.token (map C.number old.entries.slots.items) old.entries.dirty in
    let token : old.token ≡ c.into_token.result = cc (c.take.ensures.value, c.in-Some-take.is, c.into_token.ensures) in
    rw (c.take.ensures.after, c.in-Some.is) (
      λ w. w.node node,
      (node, token, λ w. refl),
      (
        (None, tt, λ w. (let none = weigh_nothing (C.weight w) (g.met.C.Subtree.weight_none w) old.entries.slots.items c.in-Empty.ensures.cases.1 in omega arith)),
        λ no. absurd (no_leaf (sym no)),
      ),
    )
