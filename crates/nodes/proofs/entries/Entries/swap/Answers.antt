use Rattle.std.proofs.Common.{◌+◌, ◌*◌, sym, ◌∙◌}
use Rattle.nodes.specs.Tree.{entry_at}
use Rattle.nodes.proofs.Below.{names_some}
use Rattle.nodes.proofs.entries.Entries.swap.Goals as goal

pub returns-clause-useful : goal.returns-clause-useful
returns-clause-useful g c =
    let C = g.C.Subtree in
    let leaf = sym c.is_leaf.ensures ∙ c.if-not-is_leaf.false in
    λ asked first old k. g.met.C.Subtree.leaf_useful c.args.entries asked (first + k * C.span_of c.args.entries) (entry_at c.put.new.self.slots.items k) leaf

pub returns-clause-some : goal.returns-clause-some
returns-clause-some g c =
    let C = g.C.Subtree in
    λ none. absurd (names_some (C.find c.args.entries) (C.span_of c.args.entries) (λ i. g.met.C.Subtree.find_none c.args.entries i) c.put.new.self.slots.items c.args.at c.args.ticket c.put.ensures.sets.0 none)
