use Rattle.std.proofs.Common.{◌≡◌, [], Some, None}
use Rattle.rights_books.specs.declared.claim.Claim.TheVariants.{Hand, File}
use Rattle.rights_books.specs.Accounts.{file_view, pass_view}
use Rattle.rights_books.proofs.books.Books.spend.Given as goal

abbrev pub ghosts-absorb : goal.ghosts-absorb
ghosts-absorb a =
    let v = file_view a.one.now in
    let w = pass_view a.other in
    record { one = File v.inode v.tickets v.tokens None; other = Hand [] []; told = v.content ≡ Some w.content }
