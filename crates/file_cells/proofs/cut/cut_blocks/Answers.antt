-- Each turn cuts off a ticket or a token past the length, and gives it back: file and hand lose the same, and once
-- nothing is cut any more the file is cut to its length.
use Rattle.std.proofs.Common.{refl, ◌∙◌}
use Rattle.nodes.specs.File.{file_of}
use Rattle.nodes.proofs.Files.{shows_file_of}
use Rattle.nodes_law.proofs.Lasting.{law_resized}
use Rattle.nodes.specs.Useful.{ends_by}
use Rattle.nodes.proofs.Useful.{useful_some, useful_cut}
use Rattle.nodes_law.proofs.Serving.{serves_not, cut_out, cut_node, cut_file}
use Rattle.file_cells.proofs.HandedOut.{ticket_held, ticket_whole, ticket_given, token_held, token_whole, token_given, cut_served}
use Rattle.file_cells.proofs.cut.cut_blocks.Goals as goal

pub release-requires-clause-held : goal.release-requires-clause-held
release-requires-clause-held g c =
    let cut = c.in-Some.ensures in
    ticket_held c.args.file.now c.spares.file c.cut.new.self c.args.hand.now c.spares.hand c.args.length c.spares.invariant.serves cut.file cut.shape cut.kind cut.length c.in-Some.spare cut.change
    c.in-Ticket.ticket c.in-Ticket.is (rw c.in-Ticket.is at cut.out) c.requires.file.held.1

pub release-requires-clause-bytes : goal.release-requires-clause-bytes
release-requires-clause-bytes g c =
    let cut = c.in-Some.ensures in
    ticket_whole c.args.file.now c.spares.file c.cut.new.self c.args.hand.now c.spares.hand c.args.length c.spares.invariant.serves cut.file cut.shape cut.kind cut.length c.in-Some.spare cut.change
    c.in-Ticket.ticket c.in-Ticket.is (rw c.in-Ticket.is at cut.out) c.requires.file.shape_is

pub spares-preserved-in-Ticket : goal.spares-preserved-in-Ticket
spares-preserved-in-Ticket g c =
    let was = c.spares.invariant in
    let cut = c.in-Some.ensures in
    let hands = rw c.in-Ticket.is at cut.out in
    let gave = ticket_given c.args.file.now c.spares.file c.cut.new.self c.args.hand.now c.spares.hand c.args.length was.serves cut.file cut.shape cut.kind cut.length c.in-Some.spare cut.change
    c.in-Ticket.ticket c.in-Ticket.is hands c.release.new.hand was.law cut.namer c.release.ensures.hand in
    record {
      law = gave.0;
      serves = gave.1;
      file =
          cut_out c.spares.file c.cut.new.self c.spares.hand c.release.new.hand c.args.length was.serves.stored cut.file cut.shape cut.kind cut.length c.in-Ticket.ticket hands cut.change.0 (rw c.in-Ticket.is at cut.change.1) cut.change.2
          ∙ was.file;
      useful = λ all. cut.useful (was.useful all);
    }

pub give_node-requires-clause-held : goal.give_node-requires-clause-held
give_node-requires-clause-held g c =
    let cut = c.in-Some.ensures in
    token_held c.args.file.now c.spares.file c.cut.new.self c.args.hand.now c.spares.hand c.args.length c.spares.invariant.serves cut.file cut.shape cut.kind cut.length c.in-Some.spare cut.change
    c.in-Token.token c.in-Token.is (rw c.in-Token.is at cut.out) c.requires.file.held.1

pub give_node-requires-clause-whole : goal.give_node-requires-clause-whole
give_node-requires-clause-whole g c =
    let cut = c.in-Some.ensures in
    token_whole c.args.file.now c.spares.file c.cut.new.self c.args.hand.now c.spares.hand c.args.length c.spares.invariant.serves cut.file cut.shape cut.kind cut.length c.in-Some.spare cut.change
    c.in-Token.token c.in-Token.is (rw c.in-Token.is at cut.out) c.spares.invariant.law c.requires.file.shape_is

pub release-requires-clause-book : goal.release-requires-clause-book
release-requires-clause-book g c = c.spares.invariant.serves.book ∙ c.requires.file.book_is

pub give_node-requires-clause-book : goal.give_node-requires-clause-book
give_node-requires-clause-book g c = c.spares.invariant.serves.book ∙ c.requires.file.book_is

pub spares-preserved : goal.spares-preserved
spares-preserved g c =
    let was = c.spares.invariant in
    let cut = c.in-Some.ensures in
    let same = rw c.in-Token.is at cut.out in
    let gave = token_given c.args.file.now c.spares.file c.cut.new.self c.args.hand.now c.spares.hand c.args.length was.serves cut.file cut.shape cut.kind cut.length c.in-Some.spare cut.change
    c.in-Token.token c.in-Token.is same c.give_node.new.hand was.law cut.namer c.give_node.ensures.hand in
    record {
      law = gave.0;
      serves = gave.1;
      file =
          cut_node c.spares.file c.cut.new.self c.spares.hand c.give_node.new.hand c.args.length was.serves.stored cut.file cut.shape cut.kind cut.length c.in-Token.token same cut.change.0 (rw c.in-Token.is at cut.change.1) cut.change.2
          ∙ was.file;
      useful = λ all. cut.useful (was.useful all);
    }

pub returns-clause-serves : goal.returns-clause-serves
returns-clause-serves g c =
    let cut = c.in_default.ensures in
    cut_served c.args.file.now c.spares.file c.cut.new.self c.args.hand.now c.spares.hand c.args.length c.spares.invariant.serves cut.file cut.shape cut.length cut.none.0 cut.kept.0 cut.kept.2 cut.namer

pub returns-clause-file : goal.returns-clause-file
returns-clause-file g c =
    let was = c.spares.invariant in
    let cut = c.in_default.ensures in
    let old = c.spares.file in
    let new = c.cut.new.self in
    cut_file old new c.spares.hand c.args.length was.serves.stored cut.file cut.shape cut.length cut.none.0 cut.kept.0 cut.kept.2
    (cut.cut (file_of old) (shows_file_of old was.serves.stored.file)) ∙ was.file

pub returns-clause-law : goal.returns-clause-law
returns-clause-law g c =
    let was = c.spares.invariant in
    let cut = c.in_default.ensures in
    law_resized g.V.Numbers.GeometryName.geometry.files c.spares.file c.cut.new.self was.law cut.shape c.args.length cut.kept.0 cut.kept.1 cut.kept.2

pub spares-init : goal.spares-init
spares-init g c = record {
  law = c.requires.file.law;
  serves = serves_not c.args.file.now c.args.hand.now c.requires.file.stored;
  file = refl;
  useful = useful_some c.args.file.now c.requires.file.stored.file (ends_by c.args.length);
}

pub returns-clause-useful : goal.returns-clause-useful
returns-clause-useful g c = λ all.
    (let cut = c.in_default.ensures in
    useful_cut c.cut.new.self cut.file c.args.length (cut.useful (c.spares.invariant.useful all)) cut.past)
