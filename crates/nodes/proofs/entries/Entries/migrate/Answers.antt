-- Entries that were passed don't name the block and stay as they are: so where one below does, the swap there is one of
-- the whole, and where none does nothing names it.
use Rattle.std.proofs.Common.{◌≡◌, length, None, arith, ap}
use Rattle.geometry.proofs.Weighing.{weigh-at}
use Rattle.nodes.specs.Tree.{entry_at}
use Rattle.nodes.specs.Change.{each_naming}
use Rattle.nodes.proofs.Changes.{weigh_used}
use Rattle.nodes.proofs.Below.{swaps_below, names_some}
use Rattle.nodes.proofs.entries.Entries.migrate.Goals as goal

pub returns-in-Ok-clause-named : goal.returns-in-Ok-clause-named
returns-in-Ok-clause-named g c =
    let xs = c.args.self.now.slots.items in
    let same = ap (λ b. b.slots.items) c.loop-place.invariant.same in
    let some = rw same at c.in-Ok.ensures.named in
    let wide : length xs ≡ c.args.count = c.requires.shaped.0 in
    let most = weigh-at (g.C.Subtree.weight (each_naming c.args.nid c.args.at c.args.from)) xs c.loop-place.place None (omega arith) in
    omega arith

pub returns-in-Ok-clause-swaps : goal.returns-in-Ok-clause-swaps
returns-in-Ok-clause-swaps g c =
    let C = g.C.Subtree in
    let laws = g.met.C.Subtree in
    let e = c.args.entries in
    let xs = c.args.self.now.slots.items in
    let same = ap (λ b. b.slots.items) c.loop-place.invariant.same in
    let at = c.loop-place.place in
    let entry = rw same at c.migrate_at.ensures.entry in
    let swaps = rw (same, c.loop-place.invariant.ticket) at c.in-Ok.ensures.swaps in
    swaps_below (C.find e) (C.span_of e) xs c.migrate_at.new.self.slots.items at entry
    (λ i h. laws.find_past e (entry_at xs at) i c.requires.some (c.requires.shaped.1 at) h) c.in-Ok.before c.args.ticket swaps

pub returns-clause-elsewhere : goal.returns-clause-elsewhere
returns-clause-elsewhere g c =
    let asked = each_naming c.args.nid c.args.at c.args.from in
    weigh_used (g.C.Subtree.weight asked) c.args.self.now.slots.items c.end-end.result (g.met.C.Subtree.weight_none asked) c.end-end.ensures.nothing
    (λ k h. c.loop-place.invariant.unnamed k (omega arith))

pub returns-in-Ok-clause-some : goal.returns-in-Ok-clause-some
returns-in-Ok-clause-some g c =
    let C = g.C.Subtree in
    let swaps = returns-in-Ok-clause-swaps g c in
    λ none. absurd (names_some (C.find c.args.entries) (C.span_of c.args.entries) (λ i. g.met.C.Subtree.find_none c.args.entries i) c.migrate_at.new.self.slots.items swaps.0 c.args.ticket swaps.2.0 none)
