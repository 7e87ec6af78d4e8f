use Rattle.std.proofs.Common.{◌≡◌, ◌<◌, ◌≤◌, sym, ap, subst, ◌∙◌}
use Rattle.geometry.specs.declared.geometry.Geometry.{Geometry}
use Rattle.geometry.specs.File.{new_file}
use Rattle.rights_books.specs.Accounts.{FileView, PassView}
use Rattle.rights_books.specs.Rules.{bare_entry}
use Rattle.file_cells.specs.Cell.{IsCell}
use Rattle.file_cells.specs.Pass.{Pass}
use Rattle.file_cells.proofs.Lodging.{same_number, cell_born, fresh_pass, none_whole, pass_of}
use Rattle.file_cells.proofs.cell.FileCell.begin.Given as given
use Rattle.file_cells.proofs.cell.FileCell.begin.Goals as goal

-- the number of the lock, and the shape of the new file
module _ (g : given.Over) (c : goal.In-None-replace g) where
  numbered : c.self.inside.number ≡ c.args.self.now.number
  numbered = same_number c.self.view_is

  some : 0 < c.self.inside.number
  some = subst (λ n. 0 < n) (sym numbered) c.requires.some

  shaped : c.in-Ok.file.shape ≡ g.V.Numbers.GeometryName.geometry.shape
  shaped = c.in-Ok.ensures.shape ∙ ap (λ (x : Geometry). x.shape) c.geometry.ensures

pub invariant_of-self : goal.invariant_of-self
invariant_of-self g c =
    let book = g.V.Books.BooksName.books.book in
    let geometry = g.V.Numbers.GeometryName.geometry in
    let v = c.self.inside in
    let new = c.in-Ok.ensures in
    let was = subst (IsCell book geometry v.number v.account) (sym c.replace.ensures.value ∙ c.in-None-replace.is) c.self.invariant in
    subst (IsCell book geometry v.number c.issue_file-account.new.account) (sym c.replace.ensures.after)
    (cell_born book geometry v.number v.account c.lodge_all.new.file c.issue_file-account.new.account was c.args.hand.now c.args.token
    (c.requires.token ∙ ap (λ n. bare_entry n n) (sym (numbered g c))) c.requires.hand c.lodge_all.ensures.file c.in-Ok.file c.issue_file-account.ensures.account
    (some g c) (shaped g c) new.token new.length new.marked new.bare new.file)

pub returns-in-None-replace-clause-pass : goal.returns-in-None-replace-clause-pass
returns-in-None-replace-clause-pass g c =
    c.of-pass.ensures
    ∙ (fresh_pass c.in-Ok.file c.args.kind c.issue_file-account.result c.self.inside.number (ap (λ (x : PassView). x.content) c.issue_file-account.ensures.pass)
    c.in-Ok.ensures.kind c.in-Ok.ensures.length
    ∙ ap (λ n. let p : Pass = record { number = n; file = new_file c.args.kind } in p) (numbered g c))

pub of-pass-requires : goal.of-pass-requires
of-pass-requires g c =
    let book = g.V.Books.BooksName.books.book in
    let geometry = g.V.Numbers.GeometryName.geometry in
    let v = c.self.inside in
    let f = c.in-Ok.file in
    let new = c.in-Ok.ensures in
    let numbered : v.number ≡ c.args.self.now.number = same_number c.self.view_is in
    let is = c.issue_file-account.ensures.pass in
    let full = c.lodge_all.ensures.file in
    pass_of book geometry v.number c.issue_file-account.result f 0 (sym new.length)
    (ap (λ (x : PassView). x.book) is ∙ ap (λ (x : FileView). x.book) full ∙ c.self.invariant.book_is)
    (ap (λ (x : PassView). x.inode) is ∙ ap (λ (x : FileView). x.inode) full ∙ c.self.invariant.inode_is)
    (subst (λ n. 0 < n) (sym numbered) c.requires.some) (subst (λ n. n ≤ geometry.files) (sym numbered) c.requires.within)
    (ap (λ (x : PassView). x.content) is) (new.shape ∙ ap (λ (x : Geometry). x.shape) c.geometry.ensures) new.file (none_whole geometry f new.file new.length)
