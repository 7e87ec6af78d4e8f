use Rattle.std.proofs.Common.{true, false, is_some, refl, ap, ◌∙◌}
use Rattle.nodes.specs.Change.{nothing}
use Rattle.nodes.proofs.Changes.{none_is, read_twice, entry_is, slot_change}
use Rattle.nodes.proofs.Same.{with_slot-same}
use Rattle.nodes.proofs.spare_entries.plant_at.Goals as goal

pub returns-then-fresh-clause-change : goal.returns-then-fresh-clause-change
returns-then-fresh-clause-change g c =
    λ _. (let done = c.plant.ensures.change c.if-not-plant.false in
    let xs = c.args.below.now.slots.items in
    let value = c.index_mut.ensures.value in
    let read = read_twice xs c.args.at c.index_mut.result.now c.index-slot.result.now c.requires.at value c.index-slot.ensures in
    let own = none_is c.index_mut.result.now c.is_none-fresh.result (ap is_some read ∙ c.is_none-fresh.ensures) ∙ c.if-fresh.true in (
      done.0,
      done.1,
      rw c.recount.ensures.rest (
          slot_change g.C.Subtree.number g.C.Subtree.weight xs c.args.at c.index_mut.result.now c.plant.new.slot c.requires.at value
          _ true c.args.below.now.dirty own nothing (λ w. w.node done.0) done.2),
      done.3,
    ))

pub returns-else-fresh-clause-change : goal.returns-else-fresh-clause-change
returns-else-fresh-clause-change g c =
    λ _. (let done = c.plant.ensures.change c.if-not-plant.false in
    let xs = c.args.below.now.slots.items in
    let value = c.index_mut.ensures.value in
    let read = read_twice xs c.args.at c.index_mut.result.now c.index-slot.result.now c.requires.at value c.index-slot.ensures in
    let own = none_is c.index_mut.result.now c.is_none-fresh.result (ap is_some read ∙ c.is_none-fresh.ensures) ∙ c.if-fresh.false in (
      done.0,
      done.1,
      rw c.recount.ensures.rest (
          slot_change g.C.Subtree.number g.C.Subtree.weight xs c.args.at c.index_mut.result.now c.plant.new.slot c.requires.at value
          _ false c.args.below.now.dirty own nothing (λ w. w.node done.0) done.2),
      done.3,
    ))

pub returns-then-not-plant-clause-none : goal.returns-then-not-plant-clause-none
returns-then-not-plant-clause-none g c =
    λ _. (let kept = c.plant.ensures.none c.if-not-plant.true in
    let same = with_slot-same c.args.below.now.slots c.args.at _ _ kept.1 c.index_mut.ensures.value in
    let is = entry_is c.args.below.now.slots.items c.args.at _ c.requires.at c.index_mut.ensures.value in
    (rw is kept.0, (λ k. record { dirty = c.args.below.now.dirty; slots = same k; marked = c.args.below.now.marked }), kept.2))

pub returns-then-fresh-clause-counted : goal.returns-then-fresh-clause-counted
returns-then-fresh-clause-counted g c = λ before.
    let xs = c.args.below.now.slots.items in
    let is = entry_is xs c.args.at c.index-slot.result.now c.requires.at c.index-slot.ensures in
    rw c.recount.ensures.rest (
    c.recount.ensures.counted c.args.entries xs c.plant.new.slot c.plant.ensures.shaped refl
    (rw is (c.has_mark-was.ensures c.args.entries (rw is at c.requires.shaped))) before)

pub returns-else-fresh-clause-counted : goal.returns-else-fresh-clause-counted
returns-else-fresh-clause-counted g c = λ before.
    let xs = c.args.below.now.slots.items in
    let is = entry_is xs c.args.at c.index-slot.result.now c.requires.at c.index-slot.ensures in
    rw c.recount.ensures.rest (
    c.recount.ensures.counted c.args.entries xs c.plant.new.slot c.plant.ensures.shaped refl
    (rw is (c.has_mark-was.ensures c.args.entries (rw is at c.requires.shaped))) before)
