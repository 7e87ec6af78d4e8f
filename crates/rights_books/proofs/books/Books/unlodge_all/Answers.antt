use Rattle.std.proofs.Common.{arith, ◌++◌, []}
use Rattle.geometry.proofs.Weighing.{weigh-append}
use Rattle.rights_books.specs.Accounts.{hand_view, file_view}
use Rattle.rights_books.proofs.Steps.{lodges_all}
use Rattle.rights_books.proofs.books.Books.unlodge_all.Goals as goal

pub exchange-requires-clause-rule : goal.exchange-requires-clause-rule
exchange-requires-clause-rule c =
    let v = file_view c.file.inside.holder in
    let w = hand_view c.hand.inside.holder in
    rw (c.file.invariant, c.hand.invariant) (lodges_all c.args.self.now.key v.inode v.tickets w.tickets [] (w.tickets ++ v.tickets) v.tokens w.tokens [] (w.tokens ++ v.tokens) v.content
    (λ h. let both = weigh-append h w.tickets v.tickets in omega arith) (λ h. let both = weigh-append h w.tokens v.tokens in omega arith))
