use Rattle.rights_books.specs.Accounts.{segment_view, file_view}
use Rattle.rights_books.proofs.LodgedMarks.{shows_marked}
use Rattle.rights_books.proofs.books.Books.show_marked.Goals as goal

pub exchange-requires-clause-rule : goal.exchange-requires-clause-rule
exchange-requires-clause-rule c =
    let v = segment_view c.segment.inside.holder in
    let w = file_view c.file.inside.holder in
    rw (c.segment.invariant, c.file.invariant) (shows_marked c.args.self.now.key w.inode w.tickets w.tokens w.content v.segment v.marks)
