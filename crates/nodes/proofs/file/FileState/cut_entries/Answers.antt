-- The ranges are cut from the last to the first, and a spare of one range is a spare of the file: where none of the
-- four has any, nothing stands at or past the length.
use Rattle.std.proofs.Common.{◌+◌, ◌*◌, arith}
use Rattle.geometry.specs.Path.{inode_entries, node_entries}
use Rattle.nodes.specs.File.{in_tickets, in_direct, in_indirect, in_double}
use Rattle.nodes.specs.Places.{OfTickets, OfDirect, OfIndirect, OfDouble}
use Rattle.nodes.specs.Useful.{reaches}
use Rattle.nodes.proofs.Four.{empty_four}
use Rattle.nodes.proofs.Placing.{cuts}
use Rattle.nodes.proofs.Useful.{reaching}
use Rattle.nodes.proofs.file.FileState.cut_entries.Goals as goal

pub returns-in-Some : goal.returns-in-Some
returns-in-Some g c =
    let done = c.in-Some.ensures in
    cuts c.args.self.now c.requires.file OfDouble c.cut.new.self (rw c.node_entries-entries.ensures at done.shaped) c.args.length c.in-Some.spare (simp (c.inode_entries-slots.ensures, c.node_entries-entries.ensures, c.saturating_sub-past_tickets.ensures, c.saturating_sub-past_direct.ensures, c.saturating_sub-past_indirect.ensures) at done.out) (rw c.node_entries-entries.ensures at done.namer) (simp (c.inode_entries-slots.ensures, c.node_entries-entries.ensures, c.saturating_sub-past_tickets.ensures, c.saturating_sub-past_direct.ensures, c.saturating_sub-past_indirect.ensures) at done.useful) done.change

pub returns-in-Some-cut : goal.returns-in-Some-cut
returns-in-Some-cut g c =
    let done = c.in-Some-cut.ensures in
    rw (c.in_default.ensures.none.0) (cuts c.args.self.now c.requires.file OfIndirect c.cut-2.new.self (rw c.node_entries-entries.ensures at done.shaped) c.args.length c.in-Some-cut.spare (simp (c.inode_entries-slots.ensures, c.node_entries-entries.ensures, c.saturating_sub-past_tickets.ensures, c.saturating_sub-past_direct.ensures) at done.out) (rw c.node_entries-entries.ensures at done.namer) (simp (c.inode_entries-slots.ensures, c.node_entries-entries.ensures, c.saturating_sub-past_tickets.ensures, c.saturating_sub-past_direct.ensures) at done.useful) done.change)

pub returns-in-Some-cut-2 : goal.returns-in-Some-cut-2
returns-in-Some-cut-2 g c =
    let done = c.in-Some-cut-2.ensures in
    rw (c.in_default.ensures.none.0, c.in_default-cut.ensures.none.0) (cuts c.args.self.now c.requires.file OfDirect c.cut-3.new.self (rw c.node_entries-entries.ensures at done.shaped) c.args.length c.in-Some-cut-2.spare (simp (c.inode_entries-slots.ensures, c.node_entries-entries.ensures, c.saturating_sub-past_tickets.ensures) at done.out) (rw c.node_entries-entries.ensures at done.namer) (simp (c.inode_entries-slots.ensures, c.node_entries-entries.ensures, c.saturating_sub-past_tickets.ensures) at done.useful) done.change)

pub returns-in-Some-cut-3 : goal.returns-in-Some-cut-3
returns-in-Some-cut-3 g c =
    let done = c.in-Some-cut-3.ensures in
    rw (c.in_default.ensures.none.0, c.in_default-cut.ensures.none.0, c.in_default-cut-2.ensures.none.0) (cuts c.args.self.now c.requires.file OfTickets c.cut-4.new.self (rw c.inode_entries-slots.ensures at done.shaped) c.args.length c.in-Some-cut-3.spare done.out done.namer done.useful done.change)

pub returns : goal.returns
returns g c =
    let f = c.args.self.now in
    let e = node_entries f.shape in
    let d = inode_entries f.shape in
    let n = c.args.length in
    let tickets = c.in_default-cut-3.ensures in
    let direct = c.in_default-cut-2.ensures in
    let indirect = c.in_default-cut.ensures in
    let double = c.in_default.ensures in
    let q = simp (c.inode_entries-slots.ensures, c.node_entries-entries.ensures, c.saturating_sub-past_tickets.ensures) at direct.none.1 in
    let r = simp (c.inode_entries-slots.ensures, c.node_entries-entries.ensures, c.saturating_sub-past_tickets.ensures, c.saturating_sub-past_direct.ensures) at indirect.none.1 in
    let s = simp (c.inode_entries-slots.ensures, c.node_entries-entries.ensures, c.saturating_sub-past_tickets.ensures, c.saturating_sub-past_direct.ensures, c.saturating_sub-past_indirect.ensures) at double.none.1 in
    let past_direct = simp (c.inode_entries-slots.ensures, c.node_entries-entries.ensures, c.saturating_sub-past_tickets.ensures, direct.none.0) at direct.past in
    let past_indirect = simp (c.inode_entries-slots.ensures, c.node_entries-entries.ensures, c.saturating_sub-past_tickets.ensures, c.saturating_sub-past_direct.ensures, indirect.none.0) at indirect.past in
    let past_double = simp (c.inode_entries-slots.ensures, c.node_entries-entries.ensures, c.saturating_sub-past_tickets.ensures, c.saturating_sub-past_direct.ensures, c.saturating_sub-past_indirect.ensures, double.none.0) at double.past in (
      λ k. record f { tickets = tickets.none.0 k; direct = direct.none.0 k; indirect = indirect.none.0 k; double = double.none.0 k },
      record {
        empty = empty_four d (2 * e) (2 * (e * e)) (in_tickets f) (in_direct f) (in_indirect f) (in_double f) n tickets.none.1 q r s;
        bare = λ z. record {
          tickets = tickets.none.2 z;
          direct = direct.none.2 (omega arith);
          indirect = indirect.none.2 (omega arith);
          double = double.none.2 (omega arith);
        };
        past = record {
          direct = past_direct (reaches n) d (λ first end h k is. let past = reaching n d first end h k is in omega arith);
          indirect = past_indirect (reaches n) (d + 2 * e) (λ first end h k is. let past = reaching n (d + 2 * e) first end h k is in omega arith);
          double = past_double (reaches n) (d + 2 * e + 2 * (e * e)) (λ first end h k is. let past = reaching n (d + 2 * e + 2 * (e * e)) first end h k is in omega arith);
        };
      },
    )

pub cut-requires-clause-shaped : goal.cut-requires-clause-shaped
cut-requires-clause-shaped g c = rw c.node_entries-entries.ensures c.requires.file.double

pub cut-requires-2-clause-shaped : goal.cut-requires-2-clause-shaped
cut-requires-2-clause-shaped g c = rw c.node_entries-entries.ensures c.requires.file.indirect
