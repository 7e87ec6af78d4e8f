use Rattle.std.proofs.Common.{◌≡◌, [], ◌∷◌, ◌++◌, sym, ap, ◌∙◌}
use Rattle.rights_books.specs.ClaimRules.{Follows}
use Rattle.rights_books.specs.declared.row_claim.RowClaim.TheVariants.{Part, Kept}
use Rattle.rights_books.specs.RowRules.{Lawful}
use Rattle.rights_books.specs.RowAccounts.{RowView, row_view}
use Rattle.rights_books.proofs.RowSteps.{notes}
use Rattle.rights_books.proofs.rows.Rows.note.Goals as goal

pub exchange-requires-clause-rule : goal.exchange-requires-clause-rule
exchange-requires-clause-rule g c =
    let v = row_view c.part.inside.holder in
    let w = row_view c.kept.inside.holder in
    let same = ap (λ (x : RowView). x.number) c.part.view_is ∙ (c.requires.number ∙ sym (ap (λ (x : RowView). x.number) c.kept.view_is)) in
    let row = g.P.Spelled.spelled c.args.shown.now in
    let rule : Follows Lawful (c.part.inside.holder.claims ++ c.kept.inside.holder.claims)
    (Part v.number row ∷ Kept w.number row ∷ []) (v.row ≡ w.row) =
    rw (c.part.invariant, c.kept.invariant) (notes v.number w.number v.row w.row row same) in
    rule
