use Rattle.rights_books.specs.Accounts.{file_view}
use Rattle.rights_books.specs.Lodged.{AreWithin}
use Rattle.rights_books.proofs.books.Books.show_within.Given as goal

abbrev pub ghosts-step : goal.ghosts-step
ghosts-step a = record { after = a.holder.now.claims; told = AreWithin a.self.now.key (file_view a.holder.now).tickets }
