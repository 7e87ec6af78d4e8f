use Rattle.rights_books.specs.Accounts.{census_view}
use Rattle.rights_books.proofs.books.Books.end_audit.Goals as goal
use Rattle.rights_books.proofs.Counting.{scatters}

pub step-requires-clause-rule : goal.step-requires-clause-rule
step-requires-clause-rule c =
    rw c.audit.invariant (scatters c.self.inside.book.key (census_view c.audit.inside.holder).copies)
