use Rattle.std.proofs.Common.{refl}
use Rattle.nodes.specs.Change.{nothing}
use Rattle.nodes.proofs.Changes.{entry_is, slot_emptied}
use Rattle.nodes.proofs.Same.{with_slot-same}
use Rattle.nodes.proofs.entries.Entries.prune_at.Goals as goal

pub returns-in_default-clause-none : goal.returns-in_default-clause-none
returns-in_default-clause-none g c =
    let kept = c.in_default.ensures.none in
    let same = with_slot-same c.args.self.now.slots c.args.at _ _ kept.0 c.index_mut.ensures.value in
    let is = entry_is c.args.self.now.slots.items c.args.at _ c.requires.at c.index_mut.ensures.value in
    (λ k. record { dirty = c.args.self.now.dirty; slots = same k; marked = c.args.self.now.marked }, λ j h. rw is (kept.1 j h), λ h. rw is (kept.2 h))

pub returns-clause-change : goal.returns-clause-change
returns-clause-change g c =
    let done = c.in-Some.ensures.change in (
      done.0,
      done.1,
      rw c.settle.ensures.rest (
          slot_emptied g.C.Subtree.number g.C.Subtree.weight c.args.self.now.slots.items c.args.at c.index_mut.result.now c.prune.new.slot c.requires.at
          c.index_mut.ensures.value c.args.self.now.dirty done.0 nothing done.2),
    )

pub returns-clause-counted : goal.returns-clause-counted
returns-clause-counted g c = λ before.
    let xs = c.args.self.now.slots.items in
    let is = entry_is xs c.args.at c.index.result.now c.requires.at c.index.ensures in
    rw c.settle.ensures.rest (
    c.settle.ensures.counted c.args.entries xs c.prune.new.slot c.prune.ensures.shaped refl
    (rw is (c.has_mark-was.ensures c.args.entries (rw is at c.requires.shaped))) before)
