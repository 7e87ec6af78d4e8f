use Rattle.std.proofs.Common.{◌≡◌, ap, sym, subst, ◌∙◌}
use Rattle.std.specs.Prelude.{IfOk}
use Rattle.geometry.specs.File.{File}
use Rattle.nodes.specs.File.{file_of}
use Rattle.file_cells.specs.Pass.{Pass}
use Rattle.file_cells.proofs.Lodging.{cell_shows}
use Rattle.file_cells.proofs.cell.FileCell.snapshot.Goals as goal

pub returns-clause-file : goal.returns-clause-file
returns-clause-file g c =
    let shows = cell_shows g.V.Books.BooksName.books.book g.V.Numbers.GeometryName.geometry c.self.inside.number c.self.inside.account _ c.in-Some.file c.self.invariant c.in-Some.is c.pass.inside.account.content c.compare.ensures.same in
    let seen : c.args.pass.now.file ≡ file_of c.in-Some.file = ap (λ (x : Pass). x.file) (sym c.pass.view_is) ∙ shows in
    subst (λ (x : File). IfOk c.take_reader.result (λ reader. reader.file ≡ x)) (sym seen) c.take_reader.ensures.file
