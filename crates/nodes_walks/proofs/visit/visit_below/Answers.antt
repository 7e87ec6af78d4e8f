-- The three ranges are walked in order until one has the node: those before it were left as they were, so a visit of
-- one node there is the only change of the file.
use Rattle.std.proofs.Common.{◌∙◌, refl, arith}
use Rattle.nodes.specs.Tree.{entry_at}
use Rattle.nodes.specs.Laws.{weightless}
use Rattle.nodes.proofs.Changes.{weigh_zero}
use Rattle.nodes.specs.Change.{ticket_weight}
use Rattle.nodes_walks.specs.Moving.{each_numbered}
use Rattle.nodes.proofs.Results.{if_ok}
use Rattle.nodes_walks.proofs.Keeping.{kept_direct, kept_indirect, kept_double}
use Rattle.nodes_walks.proofs.visit.visit_below.Goals as goal

pub returns-clause-none : goal.returns-clause-none
returns-clause-none g c =
    let f = c.args.file.now in
    let w = each_numbered c.args.nid in
    let one = c.in_ok-visit_in.ensures.none c.if-branch.false in
    let two = c.in_ok-visit_in-2.ensures.none c.if-branch-2.false in
    if_ok c.visit_in-3.result c.visit_in-3.ensures.none (λ found all missing.
    (let three = all missing in
    let tickets = weigh_zero (ticket_weight w) f.tickets.slots.items (λ k h. weightless w (entry_at f.tickets.slots.items k) (λ t. refl)) in (
      omega arith,
      λ k. record f { direct = one.1 k; indirect = two.1 k; double = three.1 k },
      three.2 ∙ two.2 ∙ one.2,
    )))

pub returns-in_err-visit_in-clause-kept : goal.returns-in_err-visit_in-clause-kept
returns-in_err-visit_in-clause-kept g c =
    let done = c.visit_in.ensures in
    kept_direct c.args.file.now c.requires.file c.node_entries-entries.result c.node_entries-entries.ensures c.visit_in.new.below
    (record { same = done.same; namer = done.namer; useful = done.useful; shaped = done.shaped })

pub returns-then-branch-clause-kept : goal.returns-then-branch-clause-kept
returns-then-branch-clause-kept g c =
    let done = c.visit_in.ensures in
    kept_direct c.args.file.now c.requires.file c.node_entries-entries.result c.node_entries-entries.ensures c.visit_in.new.below
    (record { same = done.same; namer = done.namer; useful = done.useful; shaped = done.shaped })

pub returns-in_err-visit_in-2-clause-kept : goal.returns-in_err-visit_in-2-clause-kept
returns-in_err-visit_in-2-clause-kept g c =
    let one = c.in_ok-visit_in.ensures.none c.if-branch.false in
    let done = c.visit_in-2.ensures in
    rw one.1 (kept_indirect c.args.file.now c.requires.file c.node_entries-entries.result c.node_entries-entries.ensures c.visit_in-2.new.below
    (record { same = done.same; namer = done.namer; useful = done.useful; shaped = done.shaped }))

pub returns-then-branch-2-clause-kept : goal.returns-then-branch-2-clause-kept
returns-then-branch-2-clause-kept g c =
    let one = c.in_ok-visit_in.ensures.none c.if-branch.false in
    let done = c.visit_in-2.ensures in
    rw one.1 (kept_indirect c.args.file.now c.requires.file c.node_entries-entries.result c.node_entries-entries.ensures c.visit_in-2.new.below
    (record { same = done.same; namer = done.namer; useful = done.useful; shaped = done.shaped }))

pub returns-clause-kept : goal.returns-clause-kept
returns-clause-kept g c =
    let one = c.in_ok-visit_in.ensures.none c.if-branch.false in
    let two = c.in_ok-visit_in-2.ensures.none c.if-branch-2.false in
    let done = c.visit_in-3.ensures in
    rw (one.1, two.1) (kept_double c.args.file.now c.requires.file c.node_entries-entries.result c.node_entries-entries.ensures c.visit_in-3.new.below
    (record { same = done.same; namer = done.namer; useful = done.useful; shaped = done.shaped }))

pub visit_in-requires-3-clause-shaped : goal.visit_in-requires-3-clause-shaped
visit_in-requires-3-clause-shaped g c = rw c.node_entries-entries.ensures c.requires.file.double
