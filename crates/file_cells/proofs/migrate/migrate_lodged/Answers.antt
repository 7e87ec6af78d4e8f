-- What is lodged is in hand for the move, which keeps hand and file in step: lodged again it is the file's, so what was
-- moved in the file was moved in the account.
use Rattle.std.proofs.Common.{ap, sym, ◌∙◌}
use Rattle.geometry.specs.Shape.{block_bytes}
use Rattle.rights_books.specs.ClaimRules.{Ruled}
use Rattle.rights_books.specs.declared.claim.Layout.{Layout}
use Rattle.nodes.proofs.TreeResults.{if_ok, on_err}
use Rattle.nodes.specs.File.{weight_of}
use Rattle.nodes.specs.Held.{AreHeld, no_others}
use Rattle.file_cells.proofs.Lodging.{lent_book, lent_all, books_again, home_again, account_kept, lodged, lodged_again}
use Rattle.file_cells.proofs.Moves.{moved_lodged, keeps_lodged}
use Rattle.file_cells.proofs.migrate.migrate_lodged.Given as given
use Rattle.file_cells.proofs.migrate.migrate_lodged.Goals as goal

pub migrate-done-requires-clause-book : goal.migrate-done-requires-clause-book
migrate-done-requires-clause-book g c = lent_book g.V.Books.BooksName.books.book c.args.account.now c.args.hand.now c.unlodge_all.new.hand c.requires.hand c.unlodge_all.ensures.hand

pub migrate-done-requires-clause-held : goal.migrate-done-requires-clause-held
migrate-done-requires-clause-held g c = (no_others, lent_all g.V.Books.BooksName.books.book c.args.account.now c.args.hand.now c.unlodge_all.new.hand c.requires.hand c.unlodge_all.ensures.hand c.args.file.now c.requires.lodged.lodged)

pub lodge_all-requires : goal.lodge_all-requires
lodge_all-requires g c =
    record { books = books_again g.V.Books.BooksName.books.book c.args.account.now c.args.hand.now c.unlodge_all.new.hand c.requires.hand c.unlodge_all.ensures.hand c.unlodge_all.new.file c.migrate-done.new.hand _ c.unlodge_all.ensures.file c.requires.book (ap (λ (b : Ruled Layout). b.book) c.books-2.ensures.books) c.migrate-done.ensures.serves.book }

pub returns-clause-lodged : goal.returns-clause-lodged
returns-clause-lodged g c =
    let h = c.args.hand.now in
    lodged_again g.V.Books.BooksName.books.book c.args.account.now c.unlodge_all.new.file c.lodge_all.new.file h c.unlodge_all.new.hand c.migrate-done.new.hand h c.requires.hand
    g.V.Numbers.GeometryName.geometry c.args.file.now c.migrate-done.new.file c.requires.lodged c.unlodge_all.ensures.file c.lodge_all.ensures.file c.unlodge_all.ensures.hand c.migrate-done.ensures.serves c.migrate-done.ensures.law

pub returns-clause-account : goal.returns-clause-account
returns-clause-account g c =
    let h = c.args.hand.now in
    account_kept g.V.Books.BooksName.books.book c.args.account.now c.unlodge_all.new.file c.lodge_all.new.file h c.unlodge_all.new.hand c.migrate-done.new.hand h c.requires.hand
    c.unlodge_all.ensures.file c.lodge_all.ensures.file

pub returns-clause-hand : goal.returns-clause-hand
returns-clause-hand g c =
    let h = c.args.hand.now in
    home_again g.V.Books.BooksName.books.book c.args.account.now c.unlodge_all.new.file c.lodge_all.new.file h c.unlodge_all.new.hand c.migrate-done.new.hand c.lodge_all.new.hand c.requires.hand
    c.unlodge_all.ensures.hand c.migrate-done.ensures.serves.book c.lodge_all.ensures.hand

pub migrate-done-requires-clause-bytes : goal.migrate-done-requires-clause-bytes
migrate-done-requires-clause-bytes g c = c.requires.bytes ∙ ap block_bytes (sym c.requires.lodged.shape_is)

-- what the file holds after the move is lodged
held_again : (g : given.Over) (c : goal.After-lodge_all g) → AreHeld c.migrate-done.new.file c.lodge_all.new.file.tickets c.lodge_all.new.file.tokens
held_again g c =
    let book = g.V.Books.BooksName.books.book in
    let a = c.args.account.now in
    let h = c.args.hand.now in
    lodged book a c.unlodge_all.new.file c.lodge_all.new.file h c.unlodge_all.new.hand c.migrate-done.new.hand h c.requires.hand
    c.migrate-done.new.file c.unlodge_all.ensures.file c.lodge_all.ensures.file
    (c.migrate-done.ensures.serves.others no_others (lent_all book a h c.unlodge_all.new.hand c.requires.hand c.unlodge_all.ensures.hand c.args.file.now c.requires.lodged.lodged))

pub returns-clause-moved : goal.returns-clause-moved
returns-clause-moved g c =
    if_ok c.migrate-done.result c.migrate-done.ensures.moved (λ fate moves is.
    moved_lodged c.args.file.now c.migrate-done.new.file c.args.account.now c.lodge_all.new.file c.requires.lodged.lodged (held_again g c) c.args.mark.address c.args.mark.owner (moves is))

pub returns-clause-gone : goal.returns-clause-gone
returns-clause-gone g c =
    if_ok c.migrate-done.result c.migrate-done.ensures.gone (λ fate gone is.
    keeps_lodged c.args.file.now c.migrate-done.new.file c.args.account.now c.lodge_all.new.file c.requires.lodged.lodged (held_again g c) (gone is).1)

pub returns-clause-err : goal.returns-clause-err
returns-clause-err g c =
    on_err c.migrate-done.result c.migrate-done.ensures.err (λ same.
    keeps_lodged c.args.file.now c.migrate-done.new.file c.args.account.now c.lodge_all.new.file c.requires.lodged.lodged (held_again g c) (λ w. ap (λ f. weight_of f w) same.0))
