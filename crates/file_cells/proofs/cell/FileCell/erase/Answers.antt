use Rattle.geometry.specs.File.{erased}
use Rattle.file_cells.proofs.Lodging.{cell_shows, pass_changed, pass_noted}
use Rattle.file_cells.proofs.cell.FileCell.erase.Goals as goal

pub returns-clause-file : goal.returns-clause-file
returns-clause-file g c =
    let p = c.pass.inside in
    let shows = cell_shows g.V.Books.BooksName.books.book g.V.Numbers.GeometryName.geometry c.self.inside.number c.self.inside.account _ c.in-Some.file c.self.invariant c.in-Some.is p.account.content c.compare.ensures.same in
    pass_changed p.number p.account c.note_file.new.pass c.erase_lodged.new.file c.note_file.ensures.pass c.args.pass.now c.in-Some.file c.pass.view_is shows
    (λ x. erased x c.args.from c.args.to) c.erase_lodged.ensures.file

pub invariant_of-pass : goal.invariant_of-pass
invariant_of-pass g c =
    let p = c.pass.inside in
    pass_noted g.V.Books.BooksName.books.book g.V.Numbers.GeometryName.geometry p.number c.note_file.new.pass c.erase_lodged.new.file p.account c.erase_lodged.new.account p.length
    c.length-pass-inside.result c.note_file.ensures.pass c.erase_lodged.ensures.lodged c.length-pass-inside.ensures c.pass.invariant
