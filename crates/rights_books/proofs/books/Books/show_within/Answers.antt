use Rattle.rights_books.specs.Accounts.{file_view}
use Rattle.rights_books.proofs.LodgedMarks.{shows_within}
use Rattle.rights_books.proofs.books.Books.show_within.Goals as goal

pub step-requires-clause-rule : goal.step-requires-clause-rule
step-requires-clause-rule c =
    let w = file_view c.file.inside.holder in
    rw c.file.invariant (shows_within c.self.inside.book.key w.inode w.tickets w.tokens w.content)
