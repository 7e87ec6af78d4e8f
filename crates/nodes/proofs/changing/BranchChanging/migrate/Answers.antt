-- A leaf names blocks and any other node names leaves below it: so the ticket is swapped in this node where it has the
-- number and the address, or below it, or nothing has changed.
use Rattle.std.proofs.Common.{Some, refl, sym, ◌∙◌}
use Rattle.nodes.specs.Change.{each_naming}
use Rattle.nodes.proofs.Changes.{branch_trades}
use Rattle.nodes.proofs.Naming.{other_number, other_address}
use Rattle.nodes.proofs.TreeResults.{if_ok, on_err}
use Rattle.nodes.proofs.changing.BranchChanging.migrate.Goals as goal

pub returns-then-not-is_leaf-clause-change : goal.returns-then-not-is_leaf-clause-change
returns-then-not-is_leaf-clause-change g c =
    let C = g.C.Subtree in
    let old = c.in-Some.branch in
    let new = c.migrate.new.self in
    rw c.in-Some.is (
    if_ok c.migrate.result c.migrate.ensures.change (λ before change. (
      branch_trades C.is_leaf C.number C.weight old.token old.entries.slots.items new.slots.items old.entries.dirty new.dirty (λ w. w.ticket before) (λ w. w.ticket c.args.ticket) change,
      λ no. refl,
    )))

pub returns-then-number-nid-clause-elsewhere : goal.returns-then-number-nid-clause-elsewhere
returns-then-number-nid-clause-elsewhere g c =
    let C = g.C.Subtree in
    let leaf = sym c.is_leaf.ensures ∙ c.if-not-is_leaf.false in
    rw c.in-Some.is (
    other_number C.is_leaf C.number C.weight c.args.nid c.args.at c.args.from
    (λ s. g.met.C.Subtree.leaf_weight (each_naming c.args.nid c.args.at c.args.from) s leaf (λ t. refl)) (Some c.in-Some.branch)
    (λ e. c.if-number-nid.true (c.number.ensures ∙ e)))

pub returns-clause-change : goal.returns-clause-change
returns-clause-change g c =
    let C = g.C.Subtree in
    let old = c.in-Some.branch in
    let new = c.swap.new.self in
    rw c.in-Some.is (
    if_ok c.swap.result c.swap.ensures.change (λ before change. (
      branch_trades C.is_leaf C.number C.weight old.token old.entries.slots.items new.slots.items old.entries.dirty new.dirty (λ w. w.ticket before) (λ w. w.ticket c.args.ticket) change,
      λ no. refl,
    )))

pub returns-clause-elsewhere : goal.returns-clause-elsewhere
returns-clause-elsewhere g c =
    let C = g.C.Subtree in
    let leaf = sym c.is_leaf.ensures ∙ c.if-not-is_leaf.false in
    rw c.in-Some.is (
    on_err c.swap.result c.swap.ensures.elsewhere (λ ne.
    other_address C.is_leaf C.number C.weight c.args.nid c.args.at c.args.from
    (λ s. g.met.C.Subtree.leaf_weight (each_naming c.args.nid c.args.at c.args.from) s leaf (λ t. refl)) c.in-Some.branch leaf (ne leaf)))
