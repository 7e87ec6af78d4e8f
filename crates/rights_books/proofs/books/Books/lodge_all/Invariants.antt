use Rattle.std.proofs.Common.{[], ◌++◌}
use Rattle.rights_books.specs.declared.claim.Claim.TheVariants.{Hand, File}
use Rattle.rights_books.specs.Accounts.{hand_view, file_view}
use Rattle.rights_books.proofs.books.Books.lodge_all.Given as goal

abbrev pub ghosts-exchange : goal.ghosts-exchange
ghosts-exchange a =
    let v = file_view a.one.now in
    let w = hand_view a.other.now in
    record { one = File v.inode (v.tickets ++ w.tickets) (v.tokens ++ w.tokens) v.content; other = Hand [] []; told = Unit {0} }
