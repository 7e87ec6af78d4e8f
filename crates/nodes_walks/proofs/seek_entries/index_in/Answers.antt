use Rattle.std.proofs.Common.{◌+◌, ◌*◌, ◌%◌, ap, ◌∙◌, arith}
use Rattle.nodes.specs.Change.{each_naming}
use Rattle.nodes.proofs.Changes.{weigh_used}
use Rattle.nodes_walks.proofs.FindingBelow.{entry_beside}
use Rattle.nodes_walks.proofs.seek_entries.index_in.Goals as goal

pub returns-clause-elsewhere : goal.returns-clause-elsewhere
returns-clause-elsewhere g c = λ _.
    (let asked = each_naming c.args.nid c.args.at c.args.from in
    weigh_used (g.C.Subtree.weight asked) c.args.below.now.slots.items c.end-place-end.result (g.met.C.Subtree.weight_none asked) c.end-place-end.ensures.nothing
    (λ k h. c.loop-place.invariant k (omega arith)))

pub returns-in-Some-clause-entry : goal.returns-in-Some-clause-entry
returns-in-Some-clause-entry g c = λ before.
    (let e = c.args.entries in
    let span = g.C.Subtree.span_of e in
    ap (λ w. (before * span + (c.loop-place.place * w + c.in-Some.index)) % e) c.span.ensures
    ∙ entry_beside span e c.args.at c.loop-place.place c.in-Some.index c.in-Some.ensures.entry before)
