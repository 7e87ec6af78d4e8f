use Rattle.rights_books.specs.Rules.{Balanced}
use Rattle.rights_books.specs.Accounts.{census_view}
use Rattle.rights_books.proofs.books.Books.settle.Given as goal

abbrev pub ghosts-step : goal.ghosts-step
ghosts-step a = record { after = a.holder.now.claims; told = Balanced (census_view a.holder.now).copies }
