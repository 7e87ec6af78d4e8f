use Rattle.std.proofs.Common.{◌≡◌, None, ap, arith}
use Rattle.rights_books.specs.Weights.{mark_of}
use Rattle.std.specs.Prelude.{slice_index_or}
use Rattle.geometry.specs.declared.owner.Owner.TheVariants.{Data}
use Rattle.mount_blocks.proofs.Stocks.{is_there, same_one, ticket_there, ticket_trades, some_name}
use Rattle.mount_blocks.proofs.load.TicketLoad.load.Goals as goal

pub take_ticket-requires : goal.take_ticket-requires
take_ticket-requires g c =
    let found = ticket_there (λ t. t.mark) c.args.stock.now c.law.ensures.tickets c.law.ensures.tokens c.requires.placed c.args.number c.args._parent c.args._slot (omega arith) c.requires.there in
    record { there = is_there (slice_index_or c.args.stock.now.tickets c.args.number None) found.0 found.1 }

pub returns-clause-loaded : goal.returns-clause-loaded
returns-clause-loaded g c =
    let found = ticket_there (λ t. t.mark) c.args.stock.now c.law.ensures.tickets c.law.ensures.tokens c.requires.placed c.args.number c.args._parent c.args._slot (omega arith) c.requires.there in (
      omega arith,
      c.take_ticket.ensures.first,
      same_one (λ t. t.mark ≡ record { address = c.args.number; owner = Data c.args._parent c.args._slot }) (slice_index_or c.args.stock.now.tickets c.args.number None) found.0 c.take_ticket.result found.1 c.take_ticket.ensures.ticket found.2,
    )

pub returns-clause-taken : goal.returns-clause-taken
returns-clause-taken g c = λ h.
    let mark = (returns-clause-loaded g c).2 in
    let name = some_name h c.args._parent c.args._slot c.args.number (omega arith) in
    let same = ap h mark in
    let went = ticket_trades c.args.stock.now c.take_ticket.new.self c.args.number c.take_ticket.result c.take_ticket.ensures.stock c.take_ticket.ensures.ticket (λ t. h t.mark) (λ e. h (mark_of e)) in
    omega arith

pub returns-clause-trades : goal.returns-clause-trades
returns-clause-trades g c = λ ticket token.
    ticket_trades c.args.stock.now c.take_ticket.new.self c.args.number c.take_ticket.result c.take_ticket.ensures.stock c.take_ticket.ensures.ticket ticket token
