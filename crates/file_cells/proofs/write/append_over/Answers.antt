-- The new ticket's owner is that of the index, whose path is there, so it may be put there.
use Rattle.std.proofs.Common.{ℕ, List, length, ap, sym, ◌∙◌, Some}
use Rattle.geometry.specs.declared.owner.Owner.{Owner}
use Rattle.rights_books.specs.Accounts.{HandView}
use Rattle.geometry.specs.File.{written}
use Rattle.geometry.specs.Shape.{block_bytes}
use Rattle.nodes.specs.File.{file_of}
use Rattle.nodes.specs.Useful.{is_off}
use Rattle.nodes.proofs.Useful.{useful_some}
use Rattle.nodes_law.proofs.Names.{owned_there}
use Rattle.file_cells.proofs.write.append_over.Goals as goal

pub append-requires-clause-bytes : goal.append-requires-clause-bytes
append-requires-clause-bytes g c = c.requires.bytes ∙ ap block_bytes c.requires.shape

pub put_ticket-requires-clause-book : goal.put_ticket-requires-clause-book
put_ticket-requires-clause-book g c = ap (λ (h : HandView). h.book) c.in_ok-ticket.ensures.appended.hand ∙ c.requires.book

pub put_ticket-requires-clause-path : goal.put_ticket-requires-clause-path
put_ticket-requires-clause-path g c = owned_there c.args.file.now c.args.block.now.index c.requires.inside c.args.owner c.requires.names

pub put_ticket-requires-clause-owner : goal.put_ticket-requires-clause-owner
put_ticket-requires-clause-owner g c = c.requires.names ∙ ap (λ (o : Owner). Some o) (sym c.in_ok-ticket.ensures.appended.owner_is)

pub put_ticket-requires-clause-bytes : goal.put_ticket-requires-clause-bytes
put_ticket-requires-clause-bytes g c = ap (λ (bytes : List ℕ). length bytes) c.in_ok-ticket.ensures.appended.content ∙ c.requires.bytes

pub put_ticket-requires-clause-address : goal.put_ticket-requires-clause-address
put_ticket-requires-clause-address g c = c.in_ok-ticket.ensures.appended.low

pub put_ticket-requires-clause-held : goal.put_ticket-requires-clause-held
put_ticket-requires-clause-held g c = (c.args.hand.now, c.requires.held.0, c.in_ok-ticket.ensures.appended.hand, c.requires.held.1)

pub returns-clause-serves : goal.returns-clause-serves
returns-clause-serves g c = c.put_ticket.ensures.serves c.args.hand.now c.in_ok-ticket.ensures.appended.hand

pub returns-clause-file : goal.returns-clause-file
returns-clause-file g c = c.put_ticket.ensures.file ∙ ap (written (file_of c.args.file.now) c.args.block.now.index) c.in_ok-ticket.ensures.appended.content

pub returns-clause-useful : goal.returns-clause-useful
returns-clause-useful g c = λ all. c.put_ticket.ensures.useful (useful_some c.args.file.now c.requires.stored.file (is_off c.args.block.now.index) all)
