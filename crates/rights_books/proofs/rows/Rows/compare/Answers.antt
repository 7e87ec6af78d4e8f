use Rattle.std.proofs.Common.{sym, ap, ◌∙◌}
use Rattle.rights_books.specs.RowAccounts.{RowView, row_view}
use Rattle.rights_books.proofs.RowSteps.{tells, part_is_no_twin}
use Rattle.rights_books.proofs.rows.Rows.compare.Goals as goal

pub tell-requires-clause-apart : goal.tell-requires-clause-apart
tell-requires-clause-apart c =
    let v = row_view c.part.inside.holder in
    let w = row_view c.kept.inside.holder in
    rw (c.part.invariant, c.kept.invariant) (part_is_no_twin v.number w.number v.row w.row)

pub tell-requires-clause-rule : goal.tell-requires-clause-rule
tell-requires-clause-rule c =
    let v = row_view c.part.inside.holder in
    let w = row_view c.kept.inside.holder in
    let same = ap (λ (x : RowView). x.number) c.part.view_is ∙ (c.requires.number ∙ sym (ap (λ (x : RowView). x.number) c.kept.view_is)) in
    rw (c.part.invariant, c.kept.invariant) (tells v.number w.number v.row w.row same)
