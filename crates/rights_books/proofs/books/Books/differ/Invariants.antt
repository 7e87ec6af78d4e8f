use Rattle.std.proofs.Common.{◌≢◌}
use Rattle.rights_books.specs.declared.claim.Claim.TheVariants.{Pass}
use Rattle.rights_books.specs.Accounts.{pass_view}
use Rattle.rights_books.proofs.books.Books.differ.Given as goal

abbrev pub ghosts-exchange : goal.ghosts-exchange
ghosts-exchange a =
    let v = pass_view a.one.now in
    let w = pass_view a.other.now in
    record { one = Pass v.inode v.content; other = Pass w.inode w.content; told = v.inode ≢ w.inode }
