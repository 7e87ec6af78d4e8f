use Rattle.std.proofs.Common.{◌+◌, List, length, ap, sym, subst, ◌∙◌, arith, rules}
use Rattle.rights_books.specs.Accounts.{FileView}
use Rattle.area_emptying.specs.Rows.{HaveNothing, HasNothing}
use Rattle.area_emptying.proofs.Nothing.{each_got}
use Rattle.volume.proofs.leaving.give_up_files.Goals as goal

pub files-preserved : goal.files-preserved
files-preserved g c =
    let book = g.V.Books.BooksName.books.book in
    let at = c.files in
    let i = at.invariant in
    let more = c.push_reserved.ensures.len in
    let less = c.in-Some.ensures.len in
    let old = at.accounts.ok.0 in
    let gave = c.give_up.ensures in
    let number = c.own_file-cell.ensures in
    let here : HasNothing book (length at.accounts.items + 1) c.give_up.result = record {
      inode_is = gave.inode ∙ number ∙ (let n = c.len.ensures in omega arith);
      book_is = gave.book;
      no_tickets = gave.tickets;
      no_tokens = gave.tokens;
    } in (
      subst (HaveNothing book) (sym c.push_reserved.ensures.items) (each_got (λ k v. HasNothing book (k + 1) v) at.accounts.items c.give_up.result i.0 here),
      omega arith,
      (let room = c.push_reserved.ensures.capacity in omega (arith, i.2)),
      gave.hand ∙ i.3,
    )
