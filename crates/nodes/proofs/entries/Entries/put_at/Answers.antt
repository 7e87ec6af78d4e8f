use Rattle.std.proofs.Common.{refl, sym}
use Rattle.nodes.specs.Change.{ticket_weight}
use Rattle.nodes.proofs.Changes.{slot_change, entry_is}
use Rattle.nodes.proofs.entries.Entries.put_at.Goals as goal

pub returns-clause-change : goal.returns-clause-change
returns-clause-change g c =
    rw (c.mark.ensures, c.recount.ensures.rest) (
    slot_change g.C.Subtree.number g.C.Subtree.weight c.args.self.now.slots.items c.args.at c.index_mut.result.now c.put-old.new.slot c.requires.at c.index_mut.ensures.value
    g.C.Subtree.is_leaf c.is_leaf.result c.args.self.now.dirty (sym c.is_leaf.ensures) (λ w. ticket_weight w c.put-old.result) (λ w. w.ticket c.args.ticket) c.put-old.ensures.change)

pub returns-clause-counted : goal.returns-clause-counted
returns-clause-counted g c = λ before.
    let xs = c.args.self.now.slots.items in
    let is = entry_is xs c.args.at c.index.result.now c.requires.at c.index.ensures in
    rw (c.mark.ensures, c.recount.ensures.rest) (
    c.recount.ensures.counted c.args.entries xs c.put-old.new.slot c.put-old.ensures.shaped refl
    (rw is (c.has_mark-was.ensures c.args.entries (rw is at c.requires.shaped))) before)
