-- What is lodged is in hand for the write, which keeps hand and file in step: lodged again it is the file's, and the
-- hand is as empty as it came.
use Rattle.std.proofs.Common.{◌<◌, ap, sym, subst, ◌∙◌}
use Rattle.geometry.specs.Path.{largest_length}
use Rattle.geometry.specs.Shape.{block_bytes}
use Rattle.rights_books.specs.ClaimRules.{Ruled}
use Rattle.rights_books.specs.declared.claim.Layout.{Layout}
use Rattle.nodes.specs.Held.{no_others}
use Rattle.file_cells.proofs.Lodging.{lent_book, lent_all, books_again, home_again, account_kept, lodged_again}
use Rattle.file_cells.proofs.lodged.write_lodged.Goals as goal

pub write_block-done-requires-clause-book : goal.write_block-done-requires-clause-book
write_block-done-requires-clause-book g c = lent_book g.V.Books.BooksName.books.book c.args.account.now c.args.hand.now c.unlodge_all.new.hand c.requires.hand c.unlodge_all.ensures.hand

pub write_block-done-requires-clause-inside : goal.write_block-done-requires-clause-inside
write_block-done-requires-clause-inside g c = subst (λ s. c.args.block.now.index < largest_length s) (sym c.requires.lodged.shape_is) c.requires.inside

pub write_block-done-requires-clause-bytes : goal.write_block-done-requires-clause-bytes
write_block-done-requires-clause-bytes g c = c.requires.bytes ∙ ap block_bytes (sym c.requires.lodged.shape_is)

pub write_block-done-requires-clause-held : goal.write_block-done-requires-clause-held
write_block-done-requires-clause-held g c = (no_others, lent_all g.V.Books.BooksName.books.book c.args.account.now c.args.hand.now c.unlodge_all.new.hand c.requires.hand c.unlodge_all.ensures.hand c.args.file.now c.requires.lodged.lodged)

pub lodge_all-requires : goal.lodge_all-requires
lodge_all-requires g c =
    record { books = books_again g.V.Books.BooksName.books.book c.args.account.now c.args.hand.now c.unlodge_all.new.hand c.requires.hand c.unlodge_all.ensures.hand c.unlodge_all.new.file c.write_block-done.new.hand _ c.unlodge_all.ensures.file c.requires.book (ap (λ (b : Ruled Layout). b.book) c.books-2.ensures.books) c.write_block-done.ensures.serves.book }

pub returns-clause-lodged : goal.returns-clause-lodged
returns-clause-lodged g c =
    let h = c.args.hand.now in
    lodged_again g.V.Books.BooksName.books.book c.args.account.now c.unlodge_all.new.file c.lodge_all.new.file h c.unlodge_all.new.hand c.write_block-done.new.hand h c.requires.hand
    g.V.Numbers.GeometryName.geometry c.args.file.now c.write_block-done.new.file c.requires.lodged c.unlodge_all.ensures.file c.lodge_all.ensures.file c.unlodge_all.ensures.hand c.write_block-done.ensures.serves c.write_block-done.ensures.law

pub returns-clause-account : goal.returns-clause-account
returns-clause-account g c =
    let h = c.args.hand.now in
    account_kept g.V.Books.BooksName.books.book c.args.account.now c.unlodge_all.new.file c.lodge_all.new.file h c.unlodge_all.new.hand c.write_block-done.new.hand h c.requires.hand
    c.unlodge_all.ensures.file c.lodge_all.ensures.file

pub returns-clause-hand : goal.returns-clause-hand
returns-clause-hand g c =
    let h = c.args.hand.now in
    home_again g.V.Books.BooksName.books.book c.args.account.now c.unlodge_all.new.file c.lodge_all.new.file h c.unlodge_all.new.hand c.write_block-done.new.hand c.lodge_all.new.hand c.requires.hand
    c.unlodge_all.ensures.hand c.write_block-done.ensures.serves.book c.lodge_all.ensures.hand
