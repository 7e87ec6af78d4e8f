use Rattle.file_flush.proofs.Hands.{swapped_first, swapped_again}
use Rattle.file_flush.proofs.node.write_block.Goals as goal

pub returns-in-Some-clause-swapped : goal.returns-in-Some-clause-swapped
returns-in-Some-clause-swapped g c =
    swapped_again c.args.hand.now c.append.new.hand c.swap_ticket.new.hand c.in_ok-ticket.ticket.mark c.args.token.now c.swap_ticket.new.token c.requires.held.there
    c.in_ok-ticket.ensures.appended.hand c.in-Some.ensures.hand c.release.new.hand c.in-Some.before c.in-Some.ensures.before c.release.ensures.hand

pub returns-in_default-clause-swapped : goal.returns-in_default-clause-swapped
returns-in_default-clause-swapped g c =
    swapped_first c.args.hand.now c.append.new.hand c.swap_ticket.new.hand c.in_ok-ticket.ticket.mark c.args.token.now c.swap_ticket.new.token c.requires.held.there
    c.in_ok-ticket.ensures.appended.hand c.in_default.ensures.hand c.in_default.ensures.before
