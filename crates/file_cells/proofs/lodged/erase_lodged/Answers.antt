use Rattle.std.proofs.Common.{ap}
use Rattle.rights_books.specs.ClaimRules.{Ruled}
use Rattle.rights_books.specs.declared.claim.Layout.{Layout}
use Rattle.file_cells.proofs.Lodging.{lent_file, books_again, home_again, account_kept, lodged_again}
use Rattle.file_cells.proofs.lodged.erase_lodged.Goals as goal

pub erase_blocks-requires : goal.erase_blocks-requires
erase_blocks-requires g c =
    record { file = lent_file g.V.Books.BooksName.books.book c.args.account.now c.args.hand.now c.unlodge_all.new.hand c.requires.hand c.unlodge_all.ensures.hand g.V.Numbers.GeometryName.geometry c.args.file.now c.requires.lodged }

pub lodge_all-requires : goal.lodge_all-requires
lodge_all-requires g c =
    record { books = books_again g.V.Books.BooksName.books.book c.args.account.now c.args.hand.now c.unlodge_all.new.hand c.requires.hand c.unlodge_all.ensures.hand c.unlodge_all.new.file c.erase_blocks.new.hand _ c.unlodge_all.ensures.file c.requires.book (ap (λ (b : Ruled Layout). b.book) c.books-2.ensures.books) c.erase_blocks.ensures.serves.book }

pub returns-clause-lodged : goal.returns-clause-lodged
returns-clause-lodged g c =
    let h = c.args.hand.now in
    lodged_again g.V.Books.BooksName.books.book c.args.account.now c.unlodge_all.new.file c.lodge_all.new.file h c.unlodge_all.new.hand c.erase_blocks.new.hand h c.requires.hand
    g.V.Numbers.GeometryName.geometry c.args.file.now c.erase_blocks.new.file c.requires.lodged c.unlodge_all.ensures.file c.lodge_all.ensures.file c.unlodge_all.ensures.hand c.erase_blocks.ensures.serves c.erase_blocks.ensures.law

pub returns-clause-account : goal.returns-clause-account
returns-clause-account g c =
    let h = c.args.hand.now in
    account_kept g.V.Books.BooksName.books.book c.args.account.now c.unlodge_all.new.file c.lodge_all.new.file h c.unlodge_all.new.hand c.erase_blocks.new.hand h c.requires.hand
    c.unlodge_all.ensures.file c.lodge_all.ensures.file

pub returns-clause-hand : goal.returns-clause-hand
returns-clause-hand g c =
    let h = c.args.hand.now in
    home_again g.V.Books.BooksName.books.book c.args.account.now c.unlodge_all.new.file c.lodge_all.new.file h c.unlodge_all.new.hand c.erase_blocks.new.hand c.lodge_all.new.hand c.requires.hand
    c.unlodge_all.ensures.hand c.erase_blocks.ensures.serves.book c.lodge_all.ensures.hand
