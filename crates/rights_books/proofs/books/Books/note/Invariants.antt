use Rattle.std.proofs.Common.{◌≡◌, Some}
use Rattle.rights_books.specs.declared.claim.Claim.TheVariants.{File, Pass}
use Rattle.rights_books.specs.Accounts.{file_view, pass_view}
use Rattle.rights_books.proofs.books.Books.note.Given as goal

abbrev pub ghosts-exchange : goal.ghosts-exchange
ghosts-exchange g a =
    let v = file_view a.one.now in
    let w = pass_view a.other.now in
    record { one = File v.inode v.tickets v.tokens (Some g.N.Noted.content); other = Pass w.inode g.N.Noted.content; told = v.content ≡ Some w.content }
