-- As the search that lends nothing; the block that was found stands so many indexes behind those of the entries before it.
use Rattle.std.proofs.Common.{◌≡◌, ℕ, ◌+◌, ◌*◌, ◌-◌, ◌≤◌, Option, Some, None, sym, subst, ◌∙◌, arith}
use Rattle.nodes.specs.Tree.{EmptyFrom, entry_at, find_in}
use Rattle.nodes_walks.specs.Lent.{IsLent, IsNextLent}
use Rattle.nodes_walks.specs.declared.data_walk.LentBlock.{LentBlock}
use Rattle.nodes_walks.proofs.Search.{Passed, passed_entry, found_entry, found_with}
use Rattle.nodes_walks.proofs.entries.lend_next_in.Goals as goal

pub returns-in-Some-clause-next : goal.returns-in-Some-clause-next
returns-in-Some-clause-next g c =
    let C = g.C.Subtree in
    let e = c.args.entries in
    let at = c.loop-place.place in
    let xs = c.args.below.now.slots.items in
    let lent = c.in-Some.lent in
    let past : (i : ℕ) → C.span_of e ≤ i → C.find e (entry_at xs at) i ≡ None = λ i h. g.met.C.Subtree.find_past e (entry_at xs at) i c.requires.some (c.requires.shaped.1 at) h in
    let before = rw c.span-span.ensures at c.loop-place.invariant.passed in
    let found = subst (λ o. IsNextLent C.address_of C.content_of C.lent (C.find e (entry_at c.loop-place.below.slots.items at)) c.saturating_sub.result o) c.in-Some.is c.in_ok-found.ensures.next in
    let here = rw (c.loop-place.invariant.same, c.saturating_sub.ensures, c.span-span.ensures) at found in
    let next = found_entry (C.find e) (C.span_of e) xs c.args.from at past before lent.index here.0 in
    let so = found_with (C.find e) (C.span_of e) xs c.args.from at (IsLent C.address_of C.content_of C.lent lent) past lent.index here.0 here.1 in
    let index = rw c.span-span.ensures at c.behind.ensures.index in
    subst (λ (l : LentBlock _). IsNextLent C.address_of C.content_of C.lent (find_in (C.find e) (C.span_of e) xs) c.args.from (Some l))
    (λ k. record { index = sym index k; address = sym c.behind.ensures.address k; lease = sym c.behind.ensures.lease k }) (next, so)

pub loop-place-preserved : goal.loop-place-preserved
loop-place-preserved g c =
    let C = g.C.Subtree in
    let at = c.loop-place.place in
    let span = c.span-span.result in
    let none = subst (λ o. IsNextLent C.address_of C.content_of C.lent (C.find c.args.entries (entry_at c.loop-place.below.slots.items at)) c.saturating_sub.result o) c.in_default.is c.in_ok-found.ensures.next in
    let empty = rw (c.loop-place.invariant.same, c.saturating_sub.ensures) at none in
    let passed = passed_entry (C.find c.args.entries) span c.args.below.now.slots.items c.args.from at c.loop-place.invariant.passed empty in
    record {
      same = c.lend_next_at.ensures.same ∙ c.loop-place.invariant.same;
      passed = λ j le lt. passed j le (omega arith);
    }
