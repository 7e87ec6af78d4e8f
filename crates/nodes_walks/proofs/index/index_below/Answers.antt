use Rattle.std.proofs.Common.{arith, refl}
use Rattle.nodes.specs.Tree.{entry_at}
use Rattle.nodes.specs.Change.{ticket_weight, each_naming}
use Rattle.nodes.specs.Laws.{weightless}
use Rattle.nodes.proofs.Changes.{weigh_zero}
use Rattle.nodes_walks.proofs.Finding.{owner_direct_at, owner_indirect_at, owner_double_at}
use Rattle.nodes_walks.proofs.index.index_below.Goals as goal

pub returns-in-None-clause-elsewhere : goal.returns-in-None-clause-elsewhere
returns-in-None-clause-elsewhere g c = λ _.
    (let xs = c.args.file.now.tickets.slots.items in
    let w = each_naming c.args.nid c.args.at c.args.from in
    let tickets = weigh_zero (ticket_weight w) xs (λ k h. weightless w (entry_at xs k) (λ t. refl)) in
    let direct = c.in_default.ensures.elsewhere refl in
    let indirect = c.in_default-index_in.ensures.elsewhere refl in
    let double = c.in-None.ensures.elsewhere refl in
    omega arith)

pub returns-in-Some-clause-owner : goal.returns-in-Some-clause-owner
returns-in-Some-clause-owner g c =
    let it = c.in-Some.ensures in
    owner_direct_at c.args.file.now c.args.nid c.args.at c.inode_entries-slots.result c.node_entries-entries.result c.inode_entries-slots.ensures c.node_entries-entries.ensures
    c.in-Some.index it.within it.namer it.entry

pub returns-in-Some-index_in-clause-owner : goal.returns-in-Some-index_in-clause-owner
returns-in-Some-index_in-clause-owner g c =
    let it = c.in-Some-index_in.ensures in
    owner_indirect_at c.args.file.now c.args.nid c.args.at c.inode_entries-slots.result c.node_entries-entries.result c.inode_entries-slots.ensures c.node_entries-entries.ensures
    c.in-Some-index_in.index it.within it.namer it.entry

pub returns-in-Some-index_in-2-clause-owner : goal.returns-in-Some-index_in-2-clause-owner
returns-in-Some-index_in-2-clause-owner g c =
    let it = c.in-Some-index_in-2.ensures in
    owner_double_at c.args.file.now c.args.nid c.args.at c.inode_entries-slots.result c.node_entries-entries.result c.inode_entries-slots.ensures c.node_entries-entries.ensures
    c.in-Some-index_in-2.index it.within it.namer it.entry

pub index_in-requires-3-clause-shaped : goal.index_in-requires-3-clause-shaped
index_in-requires-3-clause-shaped g c = rw c.node_entries-entries.ensures c.requires.file.double
