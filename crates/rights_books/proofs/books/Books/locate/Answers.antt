use Rattle.std.proofs.Common.{List, ◌<◌, sym, ap, subst}
use Rattle.rights_books.specs.Lists.{times}
use Rattle.geometry.specs.Mark.{same_mark}
use Rattle.geometry.specs.declared.owner.Mark.{Mark}
use Rattle.rights_books.specs.Accounts.{HandView, hand_view}
use Rattle.rights_books.proofs.Steps.{located}
use Rattle.rights_books.proofs.books.Books.locate.Goals as goal

pub look-requires-clause-rule : goal.look-requires-clause-rule
look-requires-clause-rule c =
    let w = hand_view c.hand.inside.holder in
    rw c.hand.invariant (located c.args.self.now.key w.tickets w.tokens c.args.mark (subst (λ (ts : List Mark). 0 < times same_mark c.args.mark ts) (sym (ap (λ (x : HandView). x.tickets) c.hand.view_is)) c.requires.held))
