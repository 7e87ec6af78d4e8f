-- The list is turned round and popped, so the accounts come in the order of their numbers; no file lives, so each
-- account has nothing.
use Rattle.std.proofs.Common.{◌≡◌, ◌+◌, ℕ, List, length, refl, ap, sym, subst, ◌∙◌, arith, vec_len}
use Rattle.geometry.proofs.Indexing.{EachAt}
use Rattle.area_emptying.specs.Rows.{HaveNothing, HasNothing}
use Rattle.area_emptying.proofs.Nothing.{each_got}
use Rattle.file_cells.specs.Cell.{CellView}
use Rattle.close_area.proofs.Giving.{at_of, turned, bare_last, bare_front, IsBareAt}
use Rattle.close_area.proofs.returning.into_accounts.Goals as goal

pub files-init : goal.files-init
files-init g c =
    let none = c.requires.no_accounts in
    let long = c.args.accounts.ok.0 in
    let same = c.reverse.ensures.len in
    let room = c.requires.room in
    let items : List (CellView g.row.B.Denot g.row.B-Lease.Denot) = c.args.files.items in
    let count : length items ≡ vec_len c.reverse.new.self = sym c.args.files.ok.0 ∙ sym same in (
      (λ k v there. let low = (at_of c.args.accounts.items k v there).0 in absurd (omega arith)),
      omega arith,
      omega arith,
      subst (EachAt (IsBareAt (vec_len c.reverse.new.self))) (sym c.reverse.ensures.items) (turned items (vec_len c.reverse.new.self) count c.requires.numbers c.requires.none),
    )

pub into_account-requires : goal.into_account-requires
into_account-requires g c =
    let all : List (CellView g.row.B.Denot g.row.B-Lease.Denot) = c.files.files.items in
    let rest : List (CellView g.row.B.Denot g.row.B-Lease.Denot) = c.pop.new.self.items in
    let n : ℕ = vec_len c.reverse.new.self in
    record { none = ap (λ (v : CellView g.row.B.Denot g.row.B-Lease.Denot). v.state) c.into_cell.ensures ∙ (bare_last n all rest c.in-Some.file c.in-Some.ensures.items c.files.invariant.3).1 }

pub files-preserved : goal.files-preserved
files-preserved g c =
    let book = g.V.Books.BooksName.books.book in
    let at = c.files in
    let i = at.invariant in
    let all : List (CellView g.row.B.Denot g.row.B-Lease.Denot) = at.files.items in
    let rest : List (CellView g.row.B.Denot g.row.B-Lease.Denot) = c.pop.new.self.items in
    let n : ℕ = vec_len c.reverse.new.self in
    let is = bare_last n all rest c.in-Some.file c.in-Some.ensures.items i.3 in
    let more = c.push_reserved.ensures.len in
    let less = c.in-Some.ensures.len in
    let old = at.accounts.ok.0 in
    let left = c.pop.new.self.ok.0 in
    let number = is.0 in
    let count = i.1 in
    let gave = c.into_account.ensures in
    let place : c.in-Some.file.number ≡ length at.accounts.items + 1 = omega arith in
    let here : HasNothing book (length at.accounts.items + 1) c.into_account.result = record {
      inode_is = gave.inode ∙ (ap (λ (v : CellView g.row.B.Denot g.row.B-Lease.Denot). v.number) c.into_cell.ensures ∙ place);
      book_is = gave.book;
      no_tickets = gave.tickets;
      no_tokens = gave.tokens;
    } in (
      subst (HaveNothing book) (sym c.push_reserved.ensures.items) (each_got (λ k v. HasNothing book (k + 1) v) at.accounts.items c.into_account.result i.0 here),
      omega arith,
      (let room = c.push_reserved.ensures.capacity in omega (arith, i.2)),
      bare_front n all rest c.in-Some.file c.in-Some.ensures.items i.3,
    )
