use Rattle.std.proofs.Common.{◌≡◌, Some}
use Rattle.rights_books.specs.Accounts.{file_view, pass_view}
use Rattle.rights_books.proofs.books.Books.compare.Given as goal

abbrev pub ghosts-tell : goal.ghosts-tell
ghosts-tell a =
    let v = file_view a.one.now in
    let w = pass_view a.other.now in
    record { told = v.content ≡ Some w.content }
