use Rattle.std.proofs.Common.{◌∷◌}
use Rattle.rights_books.specs.Lists.{without}
use Rattle.rights_books.specs.Sameness.{same_entry}
use Rattle.rights_books.specs.declared.claim.Claim.TheVariants.{Hand, File}
use Rattle.rights_books.specs.Accounts.{hand_view, file_view}
use Rattle.rights_books.proofs.books.Books.unlodge_token.Given as goal

abbrev pub ghosts-exchange : goal.ghosts-exchange
ghosts-exchange a =
    let v = file_view a.one.now in
    let w = hand_view a.other.now in
    record { one = File v.inode v.tickets (without same_entry a.about.now v.tokens) v.content; other = Hand w.tickets (a.about.now ∷ w.tokens); told = Unit {0} }
