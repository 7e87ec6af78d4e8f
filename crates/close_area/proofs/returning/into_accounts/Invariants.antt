use Rattle.std.proofs.Common.{◌≡◌, ◌+◌, ◌≤◌, None, vec_len, vec_capacity}
use Rattle.geometry.proofs.Indexing.{EachAt}
use Rattle.area_emptying.specs.Rows.{HaveNothing}
use Rattle.close_area.proofs.returning.into_accounts.Given as goal

abbrev pub invariant-files : goal.invariant-files
invariant-files g l =
    HaveNothing g.V.Books.BooksName.books.book l.accounts.items × (vec_len l.accounts + vec_len l.files ≡ vec_len l.initial.files) × (vec_len l.initial.files ≤ vec_capacity l.accounts)
    × EachAt (λ k c. (c.number + k ≡ vec_len l.initial.files) × (c.state ≡ None)) l.files.items

abbrev pub decreases-files : goal.decreases-files
decreases-files g l = vec_len l.files
