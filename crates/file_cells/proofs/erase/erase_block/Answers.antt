-- Each turn takes a ticket or a token off the way to the index, and gives it back: file and hand lose the same, as where a file is cut
-- there; once nothing is left to take, the index is a hole.
use Rattle.std.proofs.Common.{ℕ, ◌≤◌, Option, refl, ◌∙◌, arith}
use Rattle.nodes.specs.declared.spare.Spare.TheVariants.{Ticket}
use Rattle.nodes.specs.Tree.{HandsOut, HandsOutAt}
use Rattle.nodes.specs.File.{ticket_at}
use Rattle.nodes.specs.Useful.{is_off}
use Rattle.nodes.proofs.Useful.{off_spares, useful_some, useful_hole}
use Rattle.nodes_law.proofs.Serving.{serves_not}
use Rattle.file_cells.proofs.HandedOut.{ticket_held, ticket_whole, ticket_given, token_held, token_whole, token_given}
use Rattle.file_cells.proofs.erase.erase_block.Goals as goal

-- a ticket that stood at the index is one that a cut to it hands out
cut_off : {L : Type 0} (old new : ℕ → Option L) (i : ℕ) (t : L) → HandsOutAt old new i (Ticket t) → HandsOut old new i (Ticket t)
cut_off old new i t out = let at : i ≤ i = omega arith in (i, at, out.0, out.1)

pub release-requires-clause-held : goal.release-requires-clause-held
release-requires-clause-held g c =
    let gone = c.in-Some.ensures.erased in
    let hands = cut_off (ticket_at c.spares.file) (ticket_at c.erase.new.self) c.args.index c.in-Ticket.ticket (rw c.in-Ticket.is at gone.out) in
    ticket_held c.args.file.now c.spares.file c.erase.new.self c.args.hand.now c.spares.hand c.args.index c.spares.invariant.serves gone.file gone.shape gone.kind gone.long c.in-Some.spare gone.change
    c.in-Ticket.ticket c.in-Ticket.is hands c.requires.file.held.1

pub release-requires-clause-bytes : goal.release-requires-clause-bytes
release-requires-clause-bytes g c =
    let gone = c.in-Some.ensures.erased in
    let hands = cut_off (ticket_at c.spares.file) (ticket_at c.erase.new.self) c.args.index c.in-Ticket.ticket (rw c.in-Ticket.is at gone.out) in
    ticket_whole c.args.file.now c.spares.file c.erase.new.self c.args.hand.now c.spares.hand c.args.index c.spares.invariant.serves gone.file gone.shape gone.kind gone.long c.in-Some.spare gone.change
    c.in-Ticket.ticket c.in-Ticket.is hands c.requires.file.shape_is

pub release-requires-clause-book : goal.release-requires-clause-book
release-requires-clause-book g c = c.spares.invariant.serves.book ∙ c.requires.file.book_is

pub spares-preserved-in-Ticket : goal.spares-preserved-in-Ticket
spares-preserved-in-Ticket g c =
    let was = c.spares.invariant in
    let gone = c.in-Some.ensures.erased in
    let i = c.args.index in
    let out = rw c.in-Ticket.is at gone.out in
    let hands = cut_off (ticket_at c.spares.file) (ticket_at c.erase.new.self) i c.in-Ticket.ticket out in
    let gave = ticket_given c.args.file.now c.spares.file c.erase.new.self c.args.hand.now c.spares.hand i was.serves gone.file gone.shape gone.kind gone.long c.in-Some.spare gone.change
    c.in-Ticket.ticket c.in-Ticket.is hands c.release.new.hand was.law gone.namer c.release.ensures.hand in
    record {
      law = gave.0;
      serves = gave.1;
      others = λ j ne. out.1.1 j ne ∙ was.others j ne;
      length = gone.long ∙ was.length;
      kind = gone.kind ∙ was.kind;
      useful = λ all. gone.useful (is_off i) (off_spares i) (was.useful all);
    }

pub give_node-requires-clause-held : goal.give_node-requires-clause-held
give_node-requires-clause-held g c =
    let gone = c.in-Some.ensures.erased in
    token_held c.args.file.now c.spares.file c.erase.new.self c.args.hand.now c.spares.hand c.args.index c.spares.invariant.serves gone.file gone.shape gone.kind gone.long c.in-Some.spare gone.change
    c.in-Token.token c.in-Token.is (rw c.in-Token.is at gone.out) c.requires.file.held.1

pub give_node-requires-clause-whole : goal.give_node-requires-clause-whole
give_node-requires-clause-whole g c =
    let gone = c.in-Some.ensures.erased in
    token_whole c.args.file.now c.spares.file c.erase.new.self c.args.hand.now c.spares.hand c.args.index c.spares.invariant.serves gone.file gone.shape gone.kind gone.long c.in-Some.spare gone.change
    c.in-Token.token c.in-Token.is (rw c.in-Token.is at gone.out) c.spares.invariant.law c.requires.file.shape_is

pub give_node-requires-clause-book : goal.give_node-requires-clause-book
give_node-requires-clause-book g c = c.spares.invariant.serves.book ∙ c.requires.file.book_is

pub spares-preserved : goal.spares-preserved
spares-preserved g c =
    let was = c.spares.invariant in
    let gone = c.in-Some.ensures.erased in
    let i = c.args.index in
    let same = rw c.in-Token.is at gone.out in
    let gave = token_given c.args.file.now c.spares.file c.erase.new.self c.args.hand.now c.spares.hand i was.serves gone.file gone.shape gone.kind gone.long c.in-Some.spare gone.change
    c.in-Token.token c.in-Token.is same c.give_node.new.hand was.law gone.namer c.give_node.ensures.hand in
    record {
      law = gave.0;
      serves = gave.1;
      others = λ j ne. same j ∙ was.others j ne;
      length = gone.long ∙ was.length;
      kind = gone.kind ∙ was.kind;
      useful = λ all. gone.useful (is_off i) (off_spares i) (was.useful all);
    }

pub spares-init : goal.spares-init
spares-init g c = record {
  law = c.requires.file.law;
  serves = serves_not c.args.file.now c.args.hand.now c.requires.file.stored;
  others = λ j ne. refl;
  length = refl;
  kind = refl;
  useful = useful_some c.args.file.now c.requires.file.stored.file (is_off c.args.index);
}

pub returns-clause-hole : goal.returns-clause-hole
returns-clause-hole g c =
    let hole = c.in_default.ensures.hole in
    rw hole.0 (hole.1.nothing, c.spares.invariant.others)

pub returns-clause-useful : goal.returns-clause-useful
returns-clause-useful g c = λ all.
    (let hole = c.in_default.ensures.hole in
    let was = c.spares.invariant in
    rw hole.0 (useful_hole c.spares.file was.serves.stored.file c.args.index (was.useful all) hole.1.way))
