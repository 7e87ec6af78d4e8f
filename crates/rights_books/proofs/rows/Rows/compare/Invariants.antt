use Rattle.std.proofs.Common.{◌≡◌}
use Rattle.rights_books.specs.RowAccounts.{row_view}
use Rattle.rights_books.proofs.rows.Rows.compare.Given as goal

abbrev pub ghosts-tell : goal.ghosts-tell
ghosts-tell a =
    let v = row_view a.one.now in
    let w = row_view a.other.now in
    record { told = v.row ≡ w.row }
