use Rattle.std.proofs.Common.{◌≡◌, Some, None, refl, sym, ap, subst, map, ◌∙◌, arith}
use Rattle.nodes.specs.Change.{tree_node, nothing, each_marked}
use Rattle.nodes.specs.TreeMarks.{one_of, mark_of}
use Rattle.nodes.specs.Laws.{no_leaf}
use Rattle.nodes.proofs.Changes.{branch_trades, weigh_nothing}
use Rattle.nodes.specs.Spares.{token_weight, IsEmptyNode}
use Rattle.nodes.proofs.planting.BranchPlanting.plant.Goals as goal

pub returns-in-Some-clause-change : goal.returns-in-Some-clause-change
returns-in-Some-clause-change g c =
    let C = g.C.Subtree in
    let old = c.in-Some.branch in
    let new = c.plant_in.new.below in
    rw c.in-Some.is (λ yes. (let done = c.plant_in.ensures.change yes in (
      done.0,
      done.1,
      (branch_trades C.is_leaf C.number C.weight old.token old.entries.slots.items new.slots.items old.entries.dirty new.dirty nothing (λ w. w.node done.0) done.2, λ no. refl),
      λ h. (let tokens = done.3 h in omega arith),
    )))

pub returns-clause-change : goal.returns-clause-change
returns-clause-change g c =
    let C = g.C.Subtree in
    let made = c.in-Some-take.node in
    let there : c.args.spares.now.node ≡ Some made = sym c.take.ensures.value ∙ c.in-Some-take.is in
    let is = subst (IsEmptyNode c.args.entries) there c.requires.empty.0 in
    let node = tree_node C.is_leaf made.token (map C.number made.entries.slots.items) made.entries.dirty in
    rw (c.replace.ensures.after, c.in_default.is) (λ _. (
      node,
      (refl, is.2),
      (
        (None, tt, λ w. (let none = weigh_nothing (C.weight w) (g.met.C.Subtree.weight_none w) made.entries.slots.items is.1 in omega arith)),
        λ no. absurd (no_leaf (sym no)),
      ),
      λ h. (let gone = ap (token_weight h) c.take.ensures.after in let was = ap (token_weight h) there in omega arith),
    ))

pub returns-clause-shaped : goal.returns-clause-shaped
returns-clause-shaped g c =
    let C = g.C.Subtree in
    let laws = g.met.C.Subtree in
    let made = c.in-Some-take.node in
    let there : c.args.spares.now.node ≡ Some made = sym c.take.ensures.value ∙ c.in-Some-take.is in
    let is = subst (IsEmptyNode c.args.entries) there c.requires.empty.0 in
    rw c.replace.ensures.after (
      (is.0, λ k. rw (is.1 k) (laws.shaped_none c.args.entries)),
      is.3 ∙ sym (weigh_nothing (mark_of C.weight) (ap one_of (laws.weight_none each_marked)) made.entries.slots.items is.1),
    )
