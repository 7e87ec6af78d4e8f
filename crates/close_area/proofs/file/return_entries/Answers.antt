-- Each turn cuts off one ticket or token and gives it back, so file and hand lose the same; what the blocks at home
-- held after the turn they hold before it, with the block that came.
use Rattle.std.proofs.Common.{refl, ap, ◌∙◌}
use Rattle.nodes_law.proofs.Lasting.{law_resized}
use Rattle.nodes_law.proofs.Serving.{serves_not}
use Rattle.rights_books.specs.Accounts.{HandView}
use Rattle.file_cells.proofs.HandedOut.{ticket_held, ticket_whole, ticket_given, token_held, token_whole, token_given, cut_served}
use Rattle.close_area.proofs.Holding.{hold_more, hold_same, hold_none, hold_less, same_tokens, fewer_tokens}
use Rattle.close_area.proofs.file.return_entries.Goals as goal

pub release-requires-clause-held : goal.release-requires-clause-held
release-requires-clause-held g c =
    let cut = c.in-Some.ensures in
    ticket_held c.args.file.now c.spares.file c.cut.new.self c.args.hand.now c.spares.hand 0 c.spares.invariant.serves cut.file cut.shape cut.kind cut.length c.in-Some.spare cut.change
    c.in-Ticket.ticket c.in-Ticket.is (rw c.in-Ticket.is at cut.out) c.requires.held

pub release-requires-clause-bytes : goal.release-requires-clause-bytes
release-requires-clause-bytes g c =
    let cut = c.in-Some.ensures in
    ticket_whole c.args.file.now c.spares.file c.cut.new.self c.args.hand.now c.spares.hand 0 c.spares.invariant.serves cut.file cut.shape cut.kind cut.length c.in-Some.spare cut.change
    c.in-Ticket.ticket c.in-Ticket.is (rw c.in-Ticket.is at cut.out) c.requires.shape

pub release-requires-clause-book : goal.release-requires-clause-book
release-requires-clause-book g c = c.spares.invariant.serves.book ∙ c.requires.book

pub spares-preserved-in-Ticket : goal.spares-preserved-in-Ticket
spares-preserved-in-Ticket g c =
    let was = c.spares.invariant in
    let cut = c.in-Some.ensures in
    let hands = rw c.in-Ticket.is at cut.out in
    let gave = c.release.ensures in
    let next = ticket_given c.args.file.now c.spares.file c.cut.new.self c.args.hand.now c.spares.hand 0 was.serves cut.file cut.shape cut.kind cut.length c.in-Some.spare cut.change
    c.in-Ticket.ticket c.in-Ticket.is hands c.release.new.hand was.law cut.namer gave.hand in
    record {
      law = next.0;
      serves = next.1;
      home = λ bytes shown.
          (let one = gave.home bytes shown in
          let before = was.home bytes one.0 in
          (before.0, (λ held. before.1 (hold_more bytes c.spares.file c.cut.new.self hands.0 c.in-Ticket.ticket hands.2 hands.3 (gave.some, one.1) held)), (λ held. before.2 (same_tokens bytes c.release.new.hand.tokens c.spares.hand.tokens (ap (λ (h : HandView). h.tokens) gave.hand) held))));
    }

pub return_node-requires-clause-book : goal.return_node-requires-clause-book
return_node-requires-clause-book g c = c.spares.invariant.serves.book ∙ c.requires.book

pub return_node-requires-clause-held : goal.return_node-requires-clause-held
return_node-requires-clause-held g c =
    let cut = c.in-Some.ensures in
    token_held c.args.file.now c.spares.file c.cut.new.self c.args.hand.now c.spares.hand 0 c.spares.invariant.serves cut.file cut.shape cut.kind cut.length c.in-Some.spare cut.change
    c.in-Token.token c.in-Token.is (rw c.in-Token.is at cut.out) c.requires.held

pub return_node-requires-clause-whole : goal.return_node-requires-clause-whole
return_node-requires-clause-whole g c =
    let cut = c.in-Some.ensures in
    token_whole c.args.file.now c.spares.file c.cut.new.self c.args.hand.now c.spares.hand 0 c.spares.invariant.serves cut.file cut.shape cut.kind cut.length c.in-Some.spare cut.change
    c.in-Token.token c.in-Token.is (rw c.in-Token.is at cut.out) c.spares.invariant.law c.requires.shape

pub spares-preserved : goal.spares-preserved
spares-preserved g c =
    let was = c.spares.invariant in
    let cut = c.in-Some.ensures in
    let same = rw c.in-Token.is at cut.out in
    let gave = c.return_node.ensures in
    let there = token_held c.args.file.now c.spares.file c.cut.new.self c.args.hand.now c.spares.hand 0 was.serves cut.file cut.shape cut.kind cut.length c.in-Some.spare cut.change
    c.in-Token.token c.in-Token.is same c.requires.held in
    let next = token_given c.args.file.now c.spares.file c.cut.new.self c.args.hand.now c.spares.hand 0 was.serves cut.file cut.shape cut.kind cut.length c.in-Some.spare cut.change
    c.in-Token.token c.in-Token.is same c.return_node.new.hand was.law cut.namer gave.hand in
    record {
      law = next.0;
      serves = next.1;
      home = λ bytes shown.
          (let one = gave.home bytes shown in
          let before = was.home bytes one.0 in (
            before.0,
            (λ held. before.1 (hold_same bytes c.spares.file c.cut.new.self same held)),
            (λ held. before.2 (hold_less bytes c.in-Token.token c.spares.hand.tokens there one.1 (fewer_tokens bytes c.return_node.new.hand c.spares.hand c.in-Token.token gave.hand held))),
          ));
    }

pub spares-init : goal.spares-init
spares-init g c = record {
  law = c.requires.law;
  serves = serves_not c.args.file.now c.args.hand.now c.requires.stored;
  home = λ bytes shown. (shown, (λ held. held), (λ held. held));
}

pub returns-clause-serves : goal.returns-clause-serves
returns-clause-serves g c =
    let cut = c.in_default.ensures in
    cut_served c.args.file.now c.spares.file c.cut.new.self c.args.hand.now c.spares.hand 0 c.spares.invariant.serves cut.file cut.shape cut.length cut.none.0 cut.kept.0 cut.kept.2 cut.namer

pub returns-clause-law : goal.returns-clause-law
returns-clause-law g c =
    let was = c.spares.invariant in
    let cut = c.in_default.ensures in
    law_resized g.V.Numbers.GeometryName.geometry.files c.spares.file c.cut.new.self was.law cut.shape 0 cut.kept.0 cut.kept.1 cut.kept.2

pub returns-clause-bare : goal.returns-clause-bare
returns-clause-bare g c = c.in_default.ensures.none.2 refl

pub returns-clause-home : goal.returns-clause-home
returns-clause-home g c = λ bytes shown.
    (let home = c.spares.invariant.home bytes shown in
    let cut = c.in_default.ensures in
    (home.0, home.1 (hold_none bytes c.spares.file c.cut.new.self cut.none.0 cut.none.1), home.2))
