use Rattle.std.proofs.Common.{◌≡◌, ◌+◌, ◌≤◌, vec_len, vec_capacity}
use Rattle.rights_permits.specs.Turns.{at_home}
use Rattle.area_emptying.specs.Rows.{HaveNothing}
use Rattle.volume.proofs.leaving.give_up_files.Given as goal

abbrev pub invariant-files : goal.invariant-files
invariant-files g l =
    HaveNothing g.V.Books.BooksName.books.book l.accounts.items × (vec_len l.accounts + vec_len l.files ≡ g.V.Numbers.GeometryName.geometry.files)
    × (g.V.Numbers.GeometryName.geometry.files ≤ vec_capacity l.accounts) × (l.hand ≡ at_home g.V.Books.BooksName.books.book)

abbrev pub decreases-files : goal.decreases-files
decreases-files g l = vec_len l.files
