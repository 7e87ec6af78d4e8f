use Rattle.std.proofs.Common.{◌∙◌}
use Rattle.nodes.specs.Held.{no_others}
use Rattle.file_cells.proofs.Lodging.{lent_book, lent_all, lent_file, cell_has, empty_hand}
use Rattle.file_cells.proofs.cell.FileCell.give_up.Goals as goal

pub give_up-requires : goal.give_up-requires
give_up-requires g c =
    let was = cell_has g.V.Books.BooksName.books.book g.V.Numbers.GeometryName.geometry c.self.inside.number c.self.inside.account _ c.in-Some.file c.self.invariant c.in-Some.is in
    record { file = lent_file g.V.Books.BooksName.books.book c.self.inside.account c.args.hand.now c.unlodge_all.new.hand c.requires.hand c.unlodge_all.ensures.hand g.V.Numbers.GeometryName.geometry c.in-Some.file was.keeps.0 }

pub returns-in-Some-clause-hand : goal.returns-in-Some-clause-hand
returns-in-Some-clause-hand g c =
    let was = cell_has g.V.Books.BooksName.books.book g.V.Numbers.GeometryName.geometry c.self.inside.number c.self.inside.account _ c.in-Some.file c.self.invariant c.in-Some.is in
    let mine = lent_all g.V.Books.BooksName.books.book c.self.inside.account c.args.hand.now c.unlodge_all.new.hand c.requires.hand c.unlodge_all.ensures.hand c.in-Some.file was.keeps.0.lodged in
    let here = lent_book g.V.Books.BooksName.books.book c.self.inside.account c.args.hand.now c.unlodge_all.new.hand c.requires.hand c.unlodge_all.ensures.hand in
    empty_hand g.V.Books.BooksName.books.book c.args.hand.now c.give_up.new.hand c.requires.hand (c.give_up.ensures.book ∙ here) (c.give_up.ensures.tickets no_others mine (λ x. 1)) (c.give_up.ensures.tokens no_others mine (λ x. 1))
