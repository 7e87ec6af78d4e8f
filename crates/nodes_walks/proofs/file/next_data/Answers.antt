use Rattle.std.proofs.Common.{arith}
use Rattle.nodes_walks.proofs.Ranges.{found_in_inode, found_in_direct, found_in_indirect, found_in_double, none_found}
use Rattle.nodes_walks.proofs.file.next_data.Goals as goal

pub returns-in-Some : goal.returns-in-Some
returns-in-Some g c =
    let found = c.in-Some.ensures in
    let inside = found.within in
    (found_in_inode (λ _. Unit {0}) c.args.file.now c.args.from c.inode_entries-slots.result c.node_entries-entries.result c.in-Some.index
    c.inode_entries-slots.ensures c.node_entries-entries.ensures (omega arith) (found.next, tt)).0

pub returns-in-Some-next_in : goal.returns-in-Some-next_in
returns-in-Some-next_in g c =
    let found = c.in-Some-next_in.ensures in
    let inside = found.within in
    (found_in_direct (λ _. Unit {0}) c.args.file.now c.args.from c.inode_entries-slots.result c.node_entries-entries.result c.in-Some-next_in.index
    c.inode_entries-slots.ensures c.node_entries-entries.ensures
    c.saturating_sub-from.result c.saturating_sub-from.ensures c.in_default.ensures.next (omega arith) (found.next, tt)).0

pub returns-in-Some-next_in-2 : goal.returns-in-Some-next_in-2
returns-in-Some-next_in-2 g c =
    let found = c.in-Some-next_in-2.ensures in
    let inside = found.within in
    (found_in_indirect (λ _. Unit {0}) c.args.file.now c.args.from c.inode_entries-slots.result c.node_entries-entries.result c.in-Some-next_in-2.index
    c.inode_entries-slots.ensures c.node_entries-entries.ensures
    c.saturating_sub-from.result c.saturating_sub-from.ensures c.in_default.ensures.next
    c.saturating_sub-from-2.result c.saturating_sub-from-2.ensures c.in_default-next_in.ensures.next (omega arith) (found.next, tt)).0

pub returns-in-Some-next_in-3 : goal.returns-in-Some-next_in-3
returns-in-Some-next_in-3 g c =
    (found_in_double (λ _. Unit {0}) c.args.file.now c.args.from c.inode_entries-slots.result c.node_entries-entries.result c.in-Some-next_in-3.index
    c.inode_entries-slots.ensures c.node_entries-entries.ensures
    c.saturating_sub-from.result c.saturating_sub-from.ensures c.in_default.ensures.next
    c.saturating_sub-from-2.result c.saturating_sub-from-2.ensures c.in_default-next_in.ensures.next
    c.saturating_sub-from-3.result c.saturating_sub-from-3.ensures c.in_default-next_in-2.ensures.next (c.in-Some-next_in-3.ensures.next, tt)).0

pub next_in-requires-4-clause-shaped : goal.next_in-requires-4-clause-shaped
next_in-requires-4-clause-shaped g c = rw c.node_entries-entries.ensures c.requires.double

pub returns-in-None : goal.returns-in-None
returns-in-None g c =
    none_found c.args.file.now c.args.from c.inode_entries-slots.result c.node_entries-entries.result c.inode_entries-slots.ensures c.node_entries-entries.ensures
    c.saturating_sub-from.result c.saturating_sub-from-2.result c.saturating_sub-from-3.result c.saturating_sub-from.ensures c.saturating_sub-from-2.ensures c.saturating_sub-from-3.ensures
    c.in_default.ensures.next c.in_default-next_in.ensures.next c.in_default-next_in-2.ensures.next c.in-None.ensures.next
