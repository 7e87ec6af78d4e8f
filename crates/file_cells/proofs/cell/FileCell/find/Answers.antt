use Rattle.std.proofs.Common.{ap, sym, ◌∙◌}
use Rattle.file_cells.specs.Pass.{Pass}
use Rattle.file_cells.proofs.Lodging.{cell_shows}
use Rattle.file_cells.proofs.cell.FileCell.find.Goals as goal

pub returns-clause-file : goal.returns-clause-file
returns-clause-file g c =
    let shows = cell_shows g.V.Books.BooksName.books.book g.V.Numbers.GeometryName.geometry c.self.inside.number c.self.inside.account _ c.in-Some.file c.self.invariant c.in-Some.is c.pass.inside.account.content c.compare.ensures.same in
    sym (ap (λ (x : Pass). x.file) (sym c.pass.view_is) ∙ shows)
