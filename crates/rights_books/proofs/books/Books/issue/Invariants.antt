use Rattle.std.proofs.Common.{Some}
use Rattle.rights_books.specs.declared.claim.Claim.TheVariants.{File, Pass}
use Rattle.rights_books.specs.Accounts.{file_view}
use Rattle.rights_books.proofs.books.Books.issue.Given as goal

abbrev pub ghosts-exchange : goal.ghosts-exchange
ghosts-exchange g a =
    let v = file_view a.one.now in
    record { one = File v.inode v.tickets v.tokens (Some g.N.Noted.content); other = Pass v.inode g.N.Noted.content; told = Unit {0} }
