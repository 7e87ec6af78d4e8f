use Rattle.std.proofs.Common.{◌≡◌, is_none, refl, ap, ◌∙◌}
use Rattle.nodes.specs.Tree.{entry_at}
use Rattle.nodes.proofs.Changes.{none_is, entry_is}
use Rattle.nodes.proofs.entries.Entries.settle.Goals as goal

pub returns-clause-rest : goal.returns-clause-rest
returns-clause-rest g c =
    let xs = c.args.self.now.slots.items in
    let read = (let items = ap (λ b. b.slots.items) c.recount.ensures.rest in rw items at c.index-slot.ensures) in
    let here = entry_is xs c.args.at c.index-slot.result.now c.requires.at read in
    let own : is_none (entry_at xs c.args.at) ≡ c.is_none-emptied.result = ap is_none here ∙ none_is c.index-slot.result.now c.is_none-emptied.result c.is_none-emptied.ensures in
    rw (own, c.mark.ensures, c.recount.ensures.rest) refl
