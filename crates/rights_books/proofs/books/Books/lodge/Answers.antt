use Rattle.std.proofs.Common.{List, ◌<◌, sym, ap, subst}
use Rattle.rights_books.specs.Lists.{times}
use Rattle.geometry.specs.Mark.{same_mark}
use Rattle.geometry.specs.declared.owner.Mark.{Mark}
use Rattle.rights_books.specs.Accounts.{HandView, hand_view, file_view}
use Rattle.rights_books.proofs.Steps.{lodges}
use Rattle.rights_books.proofs.books.Books.lodge.Goals as goal

pub exchange-requires-clause-rule : goal.exchange-requires-clause-rule
exchange-requires-clause-rule c =
    let v = file_view c.file.inside.holder in
    let w = hand_view c.hand.inside.holder in
    rw (c.file.invariant, c.hand.invariant) (lodges c.args.self.now.key v.inode v.tickets w.tickets v.tokens w.tokens v.content c.ticket.inside.mark (subst (λ (z : Mark × List Mark). 0 < times same_mark z.0 z.1) (λ i. (sym c.ticket.view_is i, sym (ap (λ (x : HandView). x.tickets) c.hand.view_is) i)) c.requires.held))
