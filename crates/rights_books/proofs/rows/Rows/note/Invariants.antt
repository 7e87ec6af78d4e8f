use Rattle.std.proofs.Common.{◌≡◌, [], ◌∷◌}
use Rattle.rights_books.specs.declared.row_claim.RowClaim.TheVariants.{Part, Kept}
use Rattle.rights_books.specs.RowAccounts.{row_view}
use Rattle.rights_books.proofs.rows.Rows.note.Given as goal

abbrev pub ghosts-exchange : goal.ghosts-exchange
ghosts-exchange g a =
    let v = row_view a.one.now in
    let w = row_view a.other.now in
    let row = g.P.Spelled.spelled a._about.now in
    record { after = Part v.number row ∷ Kept w.number row ∷ []; told = v.row ≡ w.row }
