use Rattle.rights_books.specs.Accounts.{hands_claims}
use Rattle.rights_books.proofs.books.Books.end_audit.Given as goal

abbrev pub ghosts-step : goal.ghosts-step
ghosts-step a = record { after = hands_claims 64; told = Unit {0} }
