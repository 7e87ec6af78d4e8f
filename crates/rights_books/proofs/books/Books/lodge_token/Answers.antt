use Rattle.std.proofs.Common.{List, ◌<◌, sym, ap, subst}
use Rattle.rights_books.specs.Lists.{times}
use Rattle.rights_books.specs.Sameness.{same_entry}
use Rattle.rights_books.specs.declared.claim.TakenNumber.{TakenNumber}
use Rattle.rights_books.specs.Accounts.{HandView, hand_view, file_view}
use Rattle.rights_books.proofs.Steps.{lodges_token}
use Rattle.rights_books.proofs.books.Books.lodge_token.Goals as goal

pub exchange-requires-clause-rule : goal.exchange-requires-clause-rule
exchange-requires-clause-rule c =
    let v = file_view c.file.inside.holder in
    let w = hand_view c.hand.inside.holder in
    rw (c.file.invariant, c.hand.invariant) (lodges_token c.args.self.now.key v.inode v.tickets w.tickets v.tokens w.tokens v.content c.args.token.now (subst (λ (ks : List TakenNumber). 0 < times same_entry c.args.token.now ks) (sym (ap (λ (x : HandView). x.tokens) c.hand.view_is)) c.requires.held))
