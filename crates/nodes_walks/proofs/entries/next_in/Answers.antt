use Rattle.std.proofs.Common.{◌≡◌, ℕ, ◌≤◌, None, arith}
use Rattle.nodes.specs.Tree.{entry_at}
use Rattle.nodes_walks.proofs.Search.{passed_entry, found_entry}
use Rattle.nodes_walks.proofs.entries.next_in.Goals as goal

pub returns-in-Some-clause-next : goal.returns-in-Some-clause-next
returns-in-Some-clause-next g c =
    let C = g.C.Subtree in
    let e = c.args.entries in
    let at = c.loop-place.place in
    let xs = c.args.below.now.slots.items in
    let past : (i : ℕ) → C.span_of e ≤ i → C.find e (entry_at xs at) i ≡ None = λ i h. g.met.C.Subtree.find_past e (entry_at xs at) i c.requires.some (c.requires.shaped.1 at) h in
    let before = rw c.span-span.ensures at c.loop-place.invariant in
    let next = rw (c.saturating_sub.ensures, c.span-span.ensures) at c.in-Some.ensures in
    rw c.span-span.ensures (found_entry (C.find e) (C.span_of e) xs c.args.from at past before c.in-Some.index next)

pub loop-place-preserved : goal.loop-place-preserved
loop-place-preserved g c =
    let C = g.C.Subtree in
    let at = c.loop-place.place in
    let span = c.span-span.result in
    let empty = rw c.saturating_sub.ensures at c.in_default.ensures in
    let passed = passed_entry (C.find c.args.entries) span c.args.below.now.slots.items c.args.from at c.loop-place.invariant empty in
    λ j le lt. passed j le (omega arith)
