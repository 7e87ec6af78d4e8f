use Rattle.std.proofs.Common.{◌≡◌, length, ap, sym, subst, ◌∙◌, arith}
use Rattle.geometry.specs.File.{File, bytes_at}
use Rattle.geometry.specs.Shape.{block_bytes}
use Rattle.nodes.specs.File.{file_of}
use Rattle.file_cells.specs.Cell.{IsCell}
use Rattle.file_cells.specs.Pass.{Pass}
use Rattle.file_cells.proofs.Lodging.{pass_shows, reads}
use Rattle.file_cells.proofs.cell.FileCell.read.Goals as goal

pub returns-clause-below : goal.returns-clause-below
returns-clause-below g c = λ yes.
    let book = g.V.Books.BooksName.books.book in
    let geometry = g.V.Numbers.GeometryName.geometry in
    let v = c.self.inside in
    let f = c.in-Some.file in
    let was = subst (IsCell book geometry v.number v.account) c.in-Some.is c.self.invariant in
    let shows = pass_shows book geometry v.number v.account f was c.pass.inside.account.content c.compare.ensures.same in
    let seen : c.args.pass.now.file ≡ file_of f = ap (λ (x : Pass). x.file) (sym c.pass.view_is) ∙ shows in (
      (let l = ap (λ (x : File). x.length) seen in let long = c.length.ensures in let below = c.if-index-length.false in omega arith),
      reads f was.keeps.0.stored.file c.args.index c.read.new.out (length c.args.out.now) (block_bytes geometry.shape) c.requires.out c.in_ok-read.ensures.bytes
          ∙ ap (λ x. bytes_at (block_bytes geometry.shape) x c.args.index) (sym seen),
    )
