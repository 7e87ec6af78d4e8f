use Rattle.std.proofs.Common.{[], ◌∷◌}
use Rattle.rights_books.specs.declared.claim.Claim.TheVariants.{Census}
use Rattle.rights_books.proofs.books.Books.audit.Given as goal

abbrev pub ghosts-step : goal.ghosts-step
ghosts-step a = record { after = Census [] ∷ []; told = Unit {0} }
