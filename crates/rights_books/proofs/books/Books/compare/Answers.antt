use Rattle.std.proofs.Common.{sym, ap, ◌∙◌}
use Rattle.rights_books.specs.Accounts.{FileView, PassView, file_view, pass_view}
use Rattle.rights_books.proofs.Steps.{compares, file_is_no_pass}
use Rattle.rights_books.proofs.books.Books.compare.Goals as goal

pub tell-requires-clause-apart : goal.tell-requires-clause-apart
tell-requires-clause-apart c =
    let v = file_view c.file.inside.holder in
    let w = pass_view c.pass.inside.holder in
    rw (c.file.invariant, c.pass.invariant) (file_is_no_pass v.inode w.inode v.tickets v.tokens v.content w.content)

pub tell-requires-clause-rule : goal.tell-requires-clause-rule
tell-requires-clause-rule c =
    let v = file_view c.file.inside.holder in
    let w = pass_view c.pass.inside.holder in
    let same = ap (λ (x : FileView). x.inode) c.file.view_is ∙ (c.requires.inode ∙ sym (ap (λ (x : PassView). x.inode) c.pass.view_is)) in
    rw (c.file.invariant, c.pass.invariant) (compares c.self.inside.book.key v.inode w.inode v.tickets v.tokens v.content w.content same)
