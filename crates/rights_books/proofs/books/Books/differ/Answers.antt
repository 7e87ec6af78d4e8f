use Rattle.rights_books.specs.Accounts.{pass_view}
use Rattle.rights_books.proofs.Steps.{differs}
use Rattle.rights_books.proofs.books.Books.differ.Goals as goal

pub exchange-requires-clause-rule : goal.exchange-requires-clause-rule
exchange-requires-clause-rule c =
    let v = pass_view c.one.inside.holder in
    let w = pass_view c.other.inside.holder in
    rw (c.one.invariant, c.other.invariant) (differs c.args.self.now.key v.inode w.inode v.content w.content)
