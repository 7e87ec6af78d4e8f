use Rattle.std.proofs.Common.{◌≡◌, ◌/◌, ◌%◌, None, refl, sym, ap, ◌∙◌, map, arith}
use Rattle.nodes.specs.Tree.{find_below}
use Rattle.nodes.specs.Change.{tree_node, nothing}
use Rattle.nodes.specs.Laws.{no_leaf}
use Rattle.nodes.proofs.Changes.{branch_trades, weigh_nothing}
use Rattle.nodes.proofs.changing.BranchChanging.erase.Goals as goal

pub returns-in-Some-erase-clause-change : goal.returns-in-Some-erase-clause-change
returns-in-Some-erase-clause-change g c =
    let C = g.C.Subtree in
    let old = c.in-Some.branch in
    let new = c.erase.new.self in
    let done = c.in-Some-erase.ensures.change in
    rw c.in-Some.is (
      done.0,
      done.1,
      (branch_trades C.is_leaf C.number C.weight old.token old.entries.slots.items new.slots.items old.entries.dirty new.dirty done.0 nothing done.2, λ no. refl),
    )

pub returns-clause-out : goal.returns-clause-out
returns-clause-out g c =
    let C = g.C.Subtree in
    let e = c.args.entries in
    let old = c.in-Some.branch in
    let same = c.in_default.ensures.none.0 in
    let empty = rw same at (c.name_nothing-names_nothing.ensures.0 c.if-not-names_nothing.false) in
    rw (c.take.ensures.after, c.in-Some.is)
    (λ j. sym (ap (λ s. C.find e s (j % C.span_of e)) (empty (j / C.span_of e)) ∙ g.met.C.Subtree.find_none e (j % C.span_of e)))

pub returns-clause-change : goal.returns-clause-change
returns-clause-change g c =
    let C = g.C.Subtree in
    let old = c.in-Some.branch in
    let node = tree_node C.is_leaf old.token (map C.number old.entries.slots.items) old.entries.dirty in
    let token : old.token ≡ c.into_token.result = cc (c.take.ensures.value, c.in-Some-take.is, c.into_token.ensures) in
    let same = c.in_default.ensures.none.0 in
    let empty = rw same at (c.name_nothing-names_nothing.ensures.0 c.if-not-names_nothing.false) in
    rw (c.take.ensures.after, c.in-Some.is) (
      λ w. w.node node,
      (node, token, λ w. refl),
      (
        (None, tt, λ w. (let none = weigh_nothing (C.weight w) (g.met.C.Subtree.weight_none w) old.entries.slots.items empty in omega arith)),
        λ no. absurd (no_leaf (sym no)),
      ),
    )
