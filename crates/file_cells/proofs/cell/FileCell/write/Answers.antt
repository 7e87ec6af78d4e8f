use Rattle.std.proofs.Common.{◌≡◌, ap}
use Rattle.geometry.specs.File.{written}
use Rattle.nodes.specs.File.{file_of}
use Rattle.file_cells.proofs.Lodging.{cell_kept, cell_has, cell_shows, pass_changed, pass_noted}
use Rattle.file_cells.proofs.cell.FileCell.write.Goals as goal

pub invariant_of-self : goal.invariant_of-self
invariant_of-self g c =
    let v = c.self.inside in
    let was = cell_has g.V.Books.BooksName.books.book g.V.Numbers.GeometryName.geometry c.self.inside.number c.self.inside.account _ c.in-Some.file c.self.invariant c.in-Some.is in
    let done = c.write_lodged.ensures in
    let same : c.write_lodged.new.file ≡ c.in-Some.file = c.in_err-write_lodged.ensures.err in
    cell_kept g.V.Books.BooksName.books.book g.V.Numbers.GeometryName.geometry v.number v.account c.in-Some.file was c.write_lodged.new.account c.write_lodged.new.file done.lodged done.number done.account
    (ap file_of same)

pub returns-clause-file : goal.returns-clause-file
returns-clause-file g c =
    let p = c.pass.inside in
    let shows = cell_shows g.V.Books.BooksName.books.book g.V.Numbers.GeometryName.geometry c.self.inside.number c.self.inside.account _ c.in-Some.file c.self.invariant c.in-Some.is p.account.content c.compare.ensures.same in
    pass_changed p.number p.account c.note_file.new.pass c.write_lodged.new.file c.note_file.ensures.pass c.args.pass.now c.in-Some.file c.pass.view_is shows
    (λ x. written x c.args.block.now.index c.args.block.now.bytes.now) c.in_ok-write_lodged.ensures.file

pub invariant_of-pass : goal.invariant_of-pass
invariant_of-pass g c =
    let p = c.pass.inside in
    pass_noted g.V.Books.BooksName.books.book g.V.Numbers.GeometryName.geometry p.number c.note_file.new.pass c.write_lodged.new.file p.account c.write_lodged.new.account p.length
    c.length-pass-inside.result c.note_file.ensures.pass c.write_lodged.ensures.lodged c.length-pass-inside.ensures c.pass.invariant
