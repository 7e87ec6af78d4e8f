use Rattle.std.proofs.Common.{◌∷◌}
use Rattle.rights_books.specs.declared.claim.Copied.TheVariants.{FileCopy}
use Rattle.rights_books.specs.declared.claim.Claim.TheVariants.{File, Census}
use Rattle.rights_books.specs.Accounts.{file_view, census_view}
use Rattle.rights_books.proofs.books.Books.learn_file.Given as goal

abbrev pub ghosts-exchange : goal.ghosts-exchange
ghosts-exchange a =
    let v = census_view a.one.now in
    let w = file_view a.other.now in
    record { one = Census (FileCopy w.inode w.tickets w.tokens ∷ v.copies); other = File w.inode w.tickets w.tokens w.content; told = Unit {0} }
