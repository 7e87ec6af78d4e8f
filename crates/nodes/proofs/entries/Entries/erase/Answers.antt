-- The nodes on the way to an index lie below the one entry that it falls to.
use Rattle.std.proofs.Common.{◌≡◌, ◌+◌, ◌*◌, ◌/◌, ◌%◌, ap, ◌∙◌, arith}
use Rattle.std.proofs.lemmas.Nat.{div-add-mod'}
use Rattle.nodes.specs.TreeUseful.{way_in}
use Rattle.nodes.proofs.entries.Entries.erase.Goals as goal

pub returns-in_default-clause-way : goal.returns-in_default-clause-way
returns-in_default-clause-way g c =
    let C = g.C.Subtree in
    let laws = g.met.C.Subtree in
    let e = c.args.entries in
    let span = C.span_of e in
    let at = c.args.index / span in
    let xs = c.args.self.now.slots.items in
    let none = rw c.span-span.ensures at c.in_default.ensures.none in
    let same : c.trim.new.self.items ≡ xs = ap (λ s. s.items) c.trim.ensures ∙ ap (λ s. s.slots.items) none.0 in
    let way = rw (c.span-span.ensures, ap (λ s. s.slots.items) none.0) at c.in_default.ensures.way in
    λ asked first test. rw same (
    way_in (C.useful e) (C.shaped e) span (λ a f. laws.useful_none e a f)
    (λ a one other f s w either p q. laws.useful_either e a one other f s c.requires.some w either p q) (λ f s. laws.useful_never e f s)
    c.args.count asked first c.args.index xs c.requires.shaped test
    (way asked (first + at * span) (λ start end from some a.
    let h = test start end (omega arith) some a in
    let whole = div-add-mod' c.args.index span in (omega arith, omega arith))))
