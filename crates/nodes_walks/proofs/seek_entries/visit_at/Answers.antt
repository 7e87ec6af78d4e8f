-- A node below this entry is one below all, so the visitor is ready for it; what is visited, missing or refused here is
-- so in the whole, and no other entry changes.
use Rattle.std.proofs.Common.{◌∙◌, ap}
use Rattle.std.proofs.Math.Seq.{map-set_same}
use Rattle.nodes.proofs.Changes.{entry_is}
use Rattle.nodes.proofs.TreeResults.{if_ok}
use Rattle.nodes.proofs.Same.{with_slot-same}
use Rattle.nodes_walks.proofs.Results.{if_err}
use Rattle.nodes_walks.proofs.Walks.{among_entries}
use Rattle.nodes_walks.specs.Moving.{each_numbered}
use Rattle.nodes_walks.proofs.FindingBelow.{moves_entry, marks_stay, still_counted}
use Rattle.nodes_walks.proofs.seek_entries.visit_at.Goals as goal

pub visit_node-requires-clause-ready : goal.visit_node-requires-clause-ready
visit_node-requires-clause-ready g c =
    λ n numbered among. c.requires.ready n numbered
    (among_entries g.C.Subtree.weight c.args.below.now.slots.items c.args.place c.index_mut.result.now c.requires.at c.index_mut.ensures.value n among)

pub returns-clause-visited : goal.returns-clause-visited
returns-clause-visited g c =
    if_ok c.visit_node.result c.visit_node.ensures.visited (λ found all known. let one = all known in (
      one.0,
      one.1,
      moves_entry g.C.Subtree.weight c.args.below.now.slots.items c.args.place c.index_mut.result.now c.requires.at c.index_mut.ensures.value c.visit_node.new.slot one.0 one.1 one.2,
      one.3,
    ))

pub returns-clause-none : goal.returns-clause-none
returns-clause-none g c =
    let xs = c.args.below.now.slots.items in
    let is = entry_is xs c.args.place c.index_mut.result.now c.requires.at c.index_mut.ensures.value in
    if_ok c.visit_node.result c.visit_node.ensures.none (λ found all missing. let none = all missing in
    let same = with_slot-same c.args.below.now.slots c.args.place _ _ none.1 c.index_mut.ensures.value in (
      ap (g.C.Subtree.weight (each_numbered c.args.nid)) is ∙ none.0,
      λ k. record { dirty = c.args.below.now.dirty; slots = same k; marked = c.args.below.now.marked },
      none.2,
    ))

pub returns-clause-refused : goal.returns-clause-refused
returns-clause-refused g c =
    let xs = c.args.below.now.slots.items in
    if_err c.visit_node.result c.visit_node.ensures.refused (λ e failed.
    let same = with_slot-same c.args.below.now.slots c.args.place _ _ failed.0 c.index_mut.ensures.value in (
      λ k. record { dirty = c.args.below.now.dirty; slots = same k; marked = c.args.below.now.marked },
      failed.1,
      among_entries g.C.Subtree.weight xs c.args.place c.index_mut.result.now c.requires.at c.index_mut.ensures.value failed.1 failed.2,
      failed.3,
    ))

pub returns-clause-numbers : goal.returns-clause-numbers
returns-clause-numbers g c =
    let value = c.index_mut.ensures.value in
    map-set_same g.C.Subtree.number c.args.below.now.slots.items c.args.place c.visit_node.new.slot c.index_mut.result.now
    (c.visit_node.ensures.number ∙ ap g.C.Subtree.number value)

pub returns-clause-counted : goal.returns-clause-counted
returns-clause-counted g c = λ before.
    let xs = c.args.below.now.slots.items in
    let marks = marks_stay g.C.Subtree.weight c.index_mut.result.now c.visit_node.new.slot c.visit_node.result
    (if_ok c.visit_node.result c.visit_node.ensures.visited (λ found all yes. let one = all yes in (one.0, one.1, one.2)))
    (if_ok c.visit_node.result c.visit_node.ensures.none (λ found all no. (all no).1)) (if_err c.visit_node.result c.visit_node.ensures.refused (λ e failed. failed.0)) in
    still_counted g.C.Subtree.weight xs c.args.place c.index_mut.result.now c.visit_node.new.slot c.args.below.now.marked c.requires.at c.index_mut.ensures.value marks before
