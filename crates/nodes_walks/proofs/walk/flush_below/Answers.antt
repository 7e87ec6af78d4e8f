-- The three ranges are walked in order until one has a marked node: those before it had none and were left as they
-- were, so the one node written is the only change of the file.
use Rattle.std.proofs.Common.{◌∙◌, refl, arith}
use Rattle.nodes.specs.Tree.{entry_at}
use Rattle.nodes.specs.Laws.{weightless}
use Rattle.nodes.proofs.Changes.{weigh_zero}
use Rattle.nodes.specs.Change.{ticket_weight, each_marked}
use Rattle.nodes.proofs.Results.{if_ok}
use Rattle.nodes_walks.proofs.Keeping.{kept_direct, kept_indirect, kept_double}
use Rattle.nodes_walks.proofs.walk.flush_below.Goals as goal

pub returns-clause-clean : goal.returns-clause-clean
returns-clause-clean g c =
    let f = c.args.file.now in
    let one = c.in_ok-flush_entries.ensures.clean c.if-branch.false in
    let two = c.in_ok-flush_entries-2.ensures.clean c.if-branch-2.false in
    if_ok c.flush_entries-found.result c.flush_entries-found.ensures.clean (λ found all no.
    (let three = all no in
    let tickets = weigh_zero (ticket_weight each_marked) f.tickets.slots.items (λ k h. weightless each_marked (entry_at f.tickets.slots.items k) (λ t. refl)) in (
      λ front. (let direct = one.0 front in
          let indirect = two.0 (omega (arith, front, c.saturating_sub-at.ensures)) in
          let double = three.0 (omega (arith, front, c.saturating_sub-at-2.ensures)) in
          omega arith),
      λ k. record f { direct = one.1 k; indirect = two.1 k; double = three.1 k },
      three.2 ∙ two.2 ∙ one.2,
    )))

pub returns-in_err-flush_entries-clause-kept : goal.returns-in_err-flush_entries-clause-kept
returns-in_err-flush_entries-clause-kept g c =
    let done = c.flush_entries.ensures in
    kept_direct c.args.file.now c.requires.file c.node_entries-entries.result c.node_entries-entries.ensures c.flush_entries.new.below
    (record { same = done.same; namer = done.namer; useful = done.useful; shaped = done.shaped })

pub returns-then-branch-clause-kept : goal.returns-then-branch-clause-kept
returns-then-branch-clause-kept g c =
    let done = c.flush_entries.ensures in
    kept_direct c.args.file.now c.requires.file c.node_entries-entries.result c.node_entries-entries.ensures c.flush_entries.new.below
    (record { same = done.same; namer = done.namer; useful = done.useful; shaped = done.shaped })

pub returns-in_err-flush_entries-2-clause-kept : goal.returns-in_err-flush_entries-2-clause-kept
returns-in_err-flush_entries-2-clause-kept g c =
    let one = c.in_ok-flush_entries.ensures.clean c.if-branch.false in
    let done = c.flush_entries-2.ensures in
    rw one.1 (kept_indirect c.args.file.now c.requires.file c.node_entries-entries.result c.node_entries-entries.ensures c.flush_entries-2.new.below
    (record { same = done.same; namer = done.namer; useful = done.useful; shaped = done.shaped }))

pub returns-then-branch-2-clause-kept : goal.returns-then-branch-2-clause-kept
returns-then-branch-2-clause-kept g c =
    let one = c.in_ok-flush_entries.ensures.clean c.if-branch.false in
    let done = c.flush_entries-2.ensures in
    rw one.1 (kept_indirect c.args.file.now c.requires.file c.node_entries-entries.result c.node_entries-entries.ensures c.flush_entries-2.new.below
    (record { same = done.same; namer = done.namer; useful = done.useful; shaped = done.shaped }))

pub returns-clause-kept : goal.returns-clause-kept
returns-clause-kept g c =
    let one = c.in_ok-flush_entries.ensures.clean c.if-branch.false in
    let two = c.in_ok-flush_entries-2.ensures.clean c.if-branch-2.false in
    let done = c.flush_entries-found.ensures in
    rw (one.1, two.1) (kept_double c.args.file.now c.requires.file c.node_entries-entries.result c.node_entries-entries.ensures c.flush_entries-found.new.below
    (record { same = done.same; namer = done.namer; useful = done.useful; shaped = done.shaped }))

pub flush_entries-found-requires-clause-shaped : goal.flush_entries-found-requires-clause-shaped
flush_entries-found-requires-clause-shaped g c = rw c.node_entries-entries.ensures c.requires.file.double
