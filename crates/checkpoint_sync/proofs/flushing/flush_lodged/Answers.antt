-- What is lodged is in hand for the flush, which leaves there what the file has then: lodged again it is the file's,
-- and the hand is as empty as it came.
use Rattle.std.proofs.Common.{ap, sym, ◌∙◌}
use Rattle.rights_books.specs.ClaimRules.{Ruled}
use Rattle.rights_books.specs.declared.claim.Layout.{Layout}
use Rattle.rights_books.specs.Accounts.{FileView, HandView}
use Rattle.nodes.specs.Held.{no_others}
use Rattle.file_cells.proofs.Lodging.{taken, in_hand, home_again, account_kept, lodged_again}
use Rattle.checkpoint_sync.proofs.Serving.{serves_flushed}
use Rattle.checkpoint_sync.proofs.flushing.flush_lodged.Goals as goal

pub flush_file-done-requires-clause-book : goal.flush_file-done-requires-clause-book
flush_file-done-requires-clause-book g c =
    let a = c.args.account.now in
    let h = c.args.hand.now in
    ap (λ (v : HandView). v.book) (taken g.V.Books.BooksName.books.book a a a h c.unlodge_all.new.hand h h c.requires.hand c.unlodge_all.ensures.hand)

pub flush_file-done-requires-clause-held : goal.flush_file-done-requires-clause-held
flush_file-done-requires-clause-held g c =
    let a = c.args.account.now in
    let h = c.args.hand.now in
    (no_others, in_hand g.V.Books.BooksName.books.book a a a h c.unlodge_all.new.hand h h c.requires.hand c.args.file.now c.unlodge_all.ensures.hand c.requires.lodged.lodged)

pub lodge_all-requires : goal.lodge_all-requires
lodge_all-requires g c =
    let a = c.args.account.now in
    let h = c.args.hand.now in
    let here = ap (λ (v : HandView). v.book) (taken g.V.Books.BooksName.books.book a a a h c.unlodge_all.new.hand h h c.requires.hand c.unlodge_all.ensures.hand) in
    let books = sym (ap (λ (b : Ruled Layout). b.book) c.books-2.ensures.books) in
    record { books = (ap (λ (v : FileView). v.book) c.unlodge_all.ensures.file ∙ c.requires.book ∙ books, c.flush_file-done.ensures.flushed.book ∙ here ∙ books) }

pub returns-clause-lodged : goal.returns-clause-lodged
returns-clause-lodged g c =
    let h = c.args.hand.now in
    let geometry = g.V.Numbers.GeometryName.geometry in
    let done = c.flush_file-done.ensures.flushed in
    let was = c.requires.lodged in
    lodged_again g.V.Books.BooksName.books.book c.args.account.now c.unlodge_all.new.file c.lodge_all.new.file h c.unlodge_all.new.hand c.flush_file-done.new.hand h c.requires.hand
    geometry c.args.file.now c.flush_file-done.new.file was c.unlodge_all.ensures.file c.lodge_all.ensures.file c.unlodge_all.ensures.hand
    (serves_flushed geometry.files c.args.file.now c.flush_file-done.new.file c.unlodge_all.new.hand c.flush_file-done.new.hand was.stored done) done.law

pub returns-clause-account : goal.returns-clause-account
returns-clause-account g c =
    let h = c.args.hand.now in
    account_kept g.V.Books.BooksName.books.book c.args.account.now c.unlodge_all.new.file c.lodge_all.new.file h c.unlodge_all.new.hand c.flush_file-done.new.hand h c.requires.hand
    c.unlodge_all.ensures.file c.lodge_all.ensures.file

pub returns-clause-hand : goal.returns-clause-hand
returns-clause-hand g c =
    let h = c.args.hand.now in
    home_again g.V.Books.BooksName.books.book c.args.account.now c.unlodge_all.new.file c.lodge_all.new.file h c.unlodge_all.new.hand c.flush_file-done.new.hand c.lodge_all.new.hand c.requires.hand
    c.unlodge_all.ensures.hand c.flush_file-done.ensures.flushed.book c.lodge_all.ensures.hand

pub returns-clause-number : goal.returns-clause-number
returns-clause-number g c = c.flush_file-done.ensures.flushed.kept.number
