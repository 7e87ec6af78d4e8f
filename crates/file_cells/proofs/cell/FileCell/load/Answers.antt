use Rattle.std.proofs.Common.{◌≡◌, ◌<◌, ◌≤◌, ap, sym, subst, ◌∙◌}
use Rattle.rights_books.specs.Accounts.{PassView}
use Rattle.file_cells.proofs.Lodging.{pass_loaded, pass_of}
use Rattle.file_cells.proofs.cell.FileCell.load.Goals as goal

pub returns-clause-pass : goal.returns-clause-pass
returns-clause-pass g c =
    c.of-pass.ensures
    ∙ pass_loaded c.args.file c.number-number.result c.issue_file-shown.result c.number-number.ensures (ap (λ (x : PassView). x.content) c.issue_file-shown.ensures.pass)

pub of-pass-requires : goal.of-pass-requires
of-pass-requires g c =
    let book = g.V.Books.BooksName.books.book in
    let geometry = g.V.Numbers.GeometryName.geometry in
    let f = c.args.file in
    let number = c.number-number.result in
    let named : number ≡ f.token.number = c.number-number.ensures in
    let is = c.issue_file-shown.ensures.pass in
    let stored = c.requires.lodged.stored in
    pass_of book geometry number c.issue_file-shown.result f c.length.result c.length.ensures
    (ap (λ (x : PassView). x.book) is ∙ c.requires.book) (ap (λ (x : PassView). x.inode) is ∙ c.requires.inode ∙ sym named)
    (subst (λ n. 0 < n) (sym named) c.requires.some) (subst (λ n. n ≤ geometry.files) (sym named) c.requires.within)
    (ap (λ (x : PassView). x.content) is) c.requires.lodged.shape_is stored.file stored.whole
