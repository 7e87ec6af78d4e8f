use Rattle.std.proofs.Common.{length, ap, sym, ◌∙◌, arith}
use Rattle.nodes_law.proofs.Serving.{with_ticket}
use Rattle.cleaning.proofs.Moving.{node_there, node_bytes, node_moves}
use Rattle.cleaning.proofs.node.move_node.Goals as goal

pub release-requires-clause-held : goal.release-requires-clause-held
release-requires-clause-held g c =
    let t = c.in_ok-ticket.ticket in
    node_there c.args.token.now c.swap_ticket.new.token c.args.hand.now c.append_elsewhere.new.hand c.swap_ticket.new.hand c.swap_ticket.new.hand t c.in-Some.before c.requires.some
    (c.in_ok-ticket.ensures.appended.hand ∙ ap (with_ticket t.mark) c.read_node.ensures.hand) c.in-Some.ensures.before c.in-Some.ensures.hand

pub release-requires-clause-bytes : goal.release-requires-clause-bytes
release-requires-clause-bytes g c =
    let t = c.in_ok-ticket.ticket in
    ap length (node_bytes c.args.token.now c.swap_ticket.new.token c.args.hand.now c.append_elsewhere.new.hand c.swap_ticket.new.hand c.swap_ticket.new.hand t c.in-Some.before c.requires.some
    (c.in_ok-ticket.ensures.appended.hand ∙ ap (with_ticket t.mark) c.read_node.ensures.hand) c.in-Some.ensures.before c.in-Some.ensures.hand)
    ∙ c.requires.whole

pub returns-clause-moved : goal.returns-clause-moved
returns-clause-moved g c =
    let t = c.in_ok-ticket.ticket in
    let some = c.in_ok-ticket.ensures.appended.low in
    node_moves c.args.token.now c.swap_ticket.new.token c.args.hand.now c.append_elsewhere.new.hand c.swap_ticket.new.hand c.release.new.hand t c.in-Some.before c.requires.some
    (c.in_ok-ticket.ensures.appended.hand ∙ ap (with_ticket t.mark) c.read_node.ensures.hand) c.in-Some.ensures.before c.in-Some.ensures.hand
    c.release.ensures.hand (omega arith)
    (λ e. c.in_ok-ticket.ensures.elsewhere (e ∙ sym c.address.ensures)) (c.in_ok-ticket.ensures.appended.content ∙ c.in_ok-read_node.ensures.bytes) c.in-Some.ensures.token
