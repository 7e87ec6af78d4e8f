use Rattle.std.proofs.Common.{◌≡◌, ◌≤◌}
use Rattle.rights_permits.proofs.turnstile.Turnstile.receive_all.Given as goal

abbrev pub invariant-loop-number : goal.invariant-loop-number
invariant-loop-number g l = record {
  out : l.token ≡ l.number;
  book : l.permits.book ≡ g.B.BooksName.books.book;
  count : l.permits.count ≡ l.number;
  few : l.number ≤ 64;
}
