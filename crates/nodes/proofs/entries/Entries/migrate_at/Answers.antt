use Rattle.std.proofs.Common.{false, refl}
use Rattle.nodes.proofs.Changes.{slot_change, entry_is}
use Rattle.nodes.proofs.Same.{with_slot-same}
use Rattle.nodes.proofs.entries.Entries.migrate_at.Goals as goal

pub returns-in-Ok-clause-change : goal.returns-in-Ok-clause-change
returns-in-Ok-clause-change g c =
    rw c.recount.ensures.rest (
    slot_change g.C.Subtree.number g.C.Subtree.weight c.args.self.now.slots.items c.args.place c.index_mut.result.now c.migrate.new.slot c.requires.at c.index_mut.ensures.value
    false false c.args.self.now.dirty refl (λ w. w.ticket c.in-Ok.before) (λ w. w.ticket c.args.ticket) c.in-Ok.ensures.change)

pub returns-in-Ok-clause-counted : goal.returns-in-Ok-clause-counted
returns-in-Ok-clause-counted g c = λ before.
    let xs = c.args.self.now.slots.items in
    let is = entry_is xs c.args.place c.index.result.now c.requires.at c.index.ensures in
    rw c.recount.ensures.rest (
    c.recount.ensures.counted c.args.entries xs c.migrate.new.slot c.migrate.ensures.shaped refl
    (rw is (c.has_mark-was.ensures c.args.entries (rw is at c.requires.shaped))) before)

pub returns-in-Err-clause-refused : goal.returns-in-Err-clause-refused
returns-in-Err-clause-refused g c =
    let same = with_slot-same c.args.self.now.slots c.args.place _ _ c.in-Err.ensures.refused c.index_mut.ensures.value in
    λ k. record { dirty = c.args.self.now.dirty; slots = same k; marked = c.args.self.now.marked }
