-- In a leaf of that number the entry is the last digit of the index; any other node passes on what is found below, with
-- the digits before it: so the index is named by that entry.
use Rattle.std.proofs.Common.{◌<◌, Some, refl, sym, subst, ◌∙◌}
use Rattle.nodes.specs.Change.{each_naming}
use Rattle.nodes.proofs.Naming.{other_number, other_address}
use Rattle.nodes_walks.proofs.FindingBelow.{named_there, named_low, names_own, entry_own, entry_below, if_some}
use Rattle.nodes_walks.proofs.seek.BranchSeek.index_of.Goals as goal

pub returns-then-is_named_at-clause-there : goal.returns-then-is_named_at-clause-there
returns-then-is_named_at-clause-there g c =
    let C = g.C.Subtree in
    let laws = g.met.C.Subtree in
    let e = c.args.entries in
    let leaf = sym c.is_leaf.ensures ∙ c.if-not-is_leaf.false in
    rw c.in-Some.is (
    named_there (C.find e) C.address_of C.number (C.span_of e) (laws.leaf_span e leaf) (λ s. laws.leaf_number e s leaf) laws.number_none
    c.in-Some.branch.entries.slots.items c.args.at c.args.from (c.is_named_at.ensures.0 c.if-is_named_at.true))

pub returns-then-number-nid-clause-elsewhere : goal.returns-then-number-nid-clause-elsewhere
returns-then-number-nid-clause-elsewhere g c = λ _.
    (let C = g.C.Subtree in
    let leaf = sym c.is_leaf.ensures ∙ c.if-not-is_leaf.false in
    rw c.in-Some.is (
    other_number C.is_leaf C.number C.weight c.args.nid c.args.at c.args.from
    (λ s. g.met.C.Subtree.leaf_weight (each_naming c.args.nid c.args.at c.args.from) s leaf (λ t. refl)) (Some c.in-Some.branch)
    (λ e. c.if-number-nid.true (c.number.ensures ∙ e))))

pub returns-else-is_named_at-clause-elsewhere : goal.returns-else-is_named_at-clause-elsewhere
returns-else-is_named_at-clause-elsewhere g c = λ _.
    (let C = g.C.Subtree in
    let leaf = sym c.is_leaf.ensures ∙ c.if-not-is_leaf.false in
    rw c.in-Some.is (
    other_address C.is_leaf C.number C.weight c.args.nid c.args.at c.args.from
    (λ s. g.met.C.Subtree.leaf_weight (each_naming c.args.nid c.args.at c.args.from) s leaf (λ t. refl)) c.in-Some.branch leaf
    (λ e. let there = c.is_named_at.ensures.1 e in let missing = c.if-is_named_at.false in cc)))

pub returns-then-is_named_at-clause-namer : goal.returns-then-is_named_at-clause-namer
returns-then-is_named_at-clause-namer g c =
    let C = g.C.Subtree in
    let leaf = sym c.is_leaf.ensures ∙ c.if-not-is_leaf.false in
    rw c.in-Some.is (names_own C.is_leaf leaf c.in-Some.branch.token.number c.args.nid (sym c.number.ensures ∙ c.if-number-nid.false) _)

pub returns-then-is_named_at-clause-entry : goal.returns-then-is_named_at-clause-entry
returns-then-is_named_at-clause-entry g c =
    let C = g.C.Subtree in
    let shaped = rw c.in-Some.is at c.requires.shaped in
    let low = named_low C.number c.in-Some.branch.entries.slots.items c.args.at c.args.from c.requires.address (c.is_named_at.ensures.0 c.if-is_named_at.true) in
    entry_own (C.span_of c.args.entries) c.args.entries c.args.at (subst (λ n. c.args.at < n) shaped.0.0 low)

pub returns-then-not-is_leaf-clause-entry : goal.returns-then-not-is_leaf-clause-entry
returns-then-not-is_leaf-clause-entry g c =
    let e = c.args.entries in
    if_some c.index_in.result c.index_in.ensures.entry (λ index all. entry_below (g.C.Subtree.span_of e) e c.args.at index all)
