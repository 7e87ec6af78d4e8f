-- What is found in one range is the next of the file, since those before it have nothing from there on; it stands so many indexes
-- behind, and its lease and its address stay.
use Rattle.std.proofs.Common.{◌≡◌, ℕ, ◌+◌, ◌*◌, List, Option, Some, None, sym, subst, ◌∙◌, arith}
use Rattle.nodes.specs.File.{find_double, ticket_at}
use Rattle.nodes.specs.Tree.{find_in}
use Rattle.tickets.specs.Placed.{Placed}
use Rattle.nodes_walks.specs.Lent.{IsLent, IsNextLent}
use Rattle.nodes_walks.specs.declared.data_walk.LentBlock.{LentBlock}
use Rattle.nodes_walks.proofs.Ranges.{NextWith, found_in_inode, found_in_direct, found_in_indirect, found_in_double, none_found}
use Rattle.nodes_walks.proofs.file.lend_next.Goals as goal

abbrev is_lent : {Lease : Type 0} → (Lease → List ℕ) → LentBlock Lease → Option Placed → Type 0
is_lent items lent = IsLent (λ (t : Placed). t.mark.address) (λ (t : Placed). t.content) items lent

abbrev is_next : {Lease : Type 0} → (Lease → List ℕ) → (ℕ → Option Placed) → ℕ → Option (LentBlock Lease) → Type 0
is_next items at from found = IsNextLent (λ (t : Placed). t.mark.address) (λ (t : Placed). t.content) items at from found

-- a block that stands elsewhere, with the same lease and address
moved : {Lease : Type 0} (items : Lease → List ℕ) (at : ℕ → Option Placed) (from index : ℕ) (lent new : LentBlock Lease)
    → index ≡ new.index → lent.address ≡ new.address → lent.lease ≡ new.lease → NextWith (is_lent items lent) at from index → is_next items at from (Some new)
moved {Lease} items at from index lent new i a l next = subst (λ (b : LentBlock Lease). is_next items at from (Some b)) (λ k. record { index = i k; address = a k; lease = l k }) next

pub returns-in-Some-clause-next : goal.returns-in-Some-clause-next
returns-in-Some-clause-next g c =
    let f = c.args.file.now in
    let items = g.B.Lease.AsSlice.items in
    let lent = c.in-Some.lent in
    let next = rw c.in-Some.is at c.in_ok-lent.ensures.next in
    let inside = rw c.in-Some.is at c.in_ok-lent.ensures.within in
    found_in_inode (is_lent items lent) f c.args.from c.inode_entries-slots.result c.node_entries-entries.result lent.index c.inode_entries-slots.ensures c.node_entries-entries.ensures (omega arith) next

pub returns-in-Some-2-clause-next : goal.returns-in-Some-2-clause-next
returns-in-Some-2-clause-next g c =
    let f = c.args.file.now in
    let items = g.B.Lease.AsSlice.items in
    let lent = c.in-Some-2.lent in
    let next = rw c.in-Some-2.is at c.in_ok-lent-2.ensures.next in
    let inside = rw c.in-Some-2.is at c.in_ok-lent-2.ensures.within in
    let none1 = rw c.in_default.is at c.in_ok-lent.ensures.next in
    let there = found_in_direct (is_lent items lent) f c.args.from c.inode_entries-slots.result c.node_entries-entries.result lent.index c.inode_entries-slots.ensures c.node_entries-entries.ensures c.saturating_sub-from.result c.saturating_sub-from.ensures none1 (omega arith) next in
    moved items (ticket_at f) c.args.from _ lent c.behind.result (let so = c.behind.ensures.index in omega arith) (sym c.behind.ensures.address) (sym c.behind.ensures.lease) there

pub returns-in-Some-3-clause-next : goal.returns-in-Some-3-clause-next
returns-in-Some-3-clause-next g c =
    let f = c.args.file.now in
    let items = g.B.Lease.AsSlice.items in
    let lent = c.in-Some-3.lent in
    let next = rw c.in-Some-3.is at c.in_ok-lent-3.ensures.next in
    let inside = rw c.in-Some-3.is at c.in_ok-lent-3.ensures.within in
    let none1 = rw c.in_default.is at c.in_ok-lent.ensures.next in
    let none2 = rw c.in_default-2.is at c.in_ok-lent-2.ensures.next in
    let there = found_in_indirect (is_lent items lent) f c.args.from c.inode_entries-slots.result c.node_entries-entries.result lent.index c.inode_entries-slots.ensures c.node_entries-entries.ensures c.saturating_sub-from.result c.saturating_sub-from.ensures none1 c.saturating_sub-from-2.result c.saturating_sub-from-2.ensures none2 (omega arith) next in
    moved items (ticket_at f) c.args.from _ lent c.behind-in-Some-3.result (let so = c.behind-in-Some-3.ensures.index in omega arith) (sym c.behind-in-Some-3.ensures.address) (sym c.behind-in-Some-3.ensures.lease) there

pub returns-in-Some-4-clause-next : goal.returns-in-Some-4-clause-next
returns-in-Some-4-clause-next g c =
    let f = c.args.file.now in
    let items = g.B.Lease.AsSlice.items in
    let lent = c.in-Some-4.lent in
    let e = c.node_entries-entries.result in
    let next = subst (λ o. is_next items (find_in (find_double e) (e * (e * (e * 1))) f.double.slots.items) c.saturating_sub-from-3.result o) c.in-Some-4.is c.in_ok-lent-4.ensures.next in
    let none1 = rw c.in_default.is at c.in_ok-lent.ensures.next in
    let none2 = rw c.in_default-2.is at c.in_ok-lent-2.ensures.next in
    let none3 = rw c.in_default-3.is at c.in_ok-lent-3.ensures.next in
    let there = found_in_double (is_lent items lent) f c.args.from c.inode_entries-slots.result c.node_entries-entries.result lent.index c.inode_entries-slots.ensures c.node_entries-entries.ensures c.saturating_sub-from.result c.saturating_sub-from.ensures none1 c.saturating_sub-from-2.result c.saturating_sub-from-2.ensures none2 c.saturating_sub-from-3.result c.saturating_sub-from-3.ensures none3 next in
    moved items (ticket_at f) c.args.from _ lent c.behind-in-Some-4.result (let so = c.behind-in-Some-4.ensures.index in omega arith) (sym c.behind-in-Some-4.ensures.address) (sym c.behind-in-Some-4.ensures.lease) there

pub lend_next_in-requires-4-clause-shaped : goal.lend_next_in-requires-4-clause-shaped
lend_next_in-requires-4-clause-shaped g c = rw c.node_entries-entries.ensures c.requires.double

pub returns-in-None-clause-next : goal.returns-in-None-clause-next
returns-in-None-clause-next g c =
    let f = c.args.file.now in
    let items = g.B.Lease.AsSlice.items in
    let e = c.node_entries-entries.result in
    let none1 = rw c.in_default.is at c.in_ok-lent.ensures.next in
    let none2 = rw c.in_default-2.is at c.in_ok-lent-2.ensures.next in
    let none3 = rw c.in_default-3.is at c.in_ok-lent-3.ensures.next in
    let none4 = subst (λ o. is_next items (find_in (find_double e) (e * (e * (e * 1))) f.double.slots.items) c.saturating_sub-from-3.result o) c.in-None.is c.in_ok-lent-4.ensures.next in
    none_found f c.args.from c.inode_entries-slots.result e c.inode_entries-slots.ensures c.node_entries-entries.ensures
    c.saturating_sub-from.result c.saturating_sub-from-2.result c.saturating_sub-from-3.result c.saturating_sub-from.ensures c.saturating_sub-from-2.ensures c.saturating_sub-from-3.ensures
    none1 none2 none3 none4
