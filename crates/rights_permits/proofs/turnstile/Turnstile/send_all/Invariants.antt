use Rattle.std.proofs.Common.{◌≡◌, ◌+◌, ◌≤◌}
use Rattle.rights_permits.proofs.turnstile.Turnstile.send_all.Given as goal

abbrev pub invariant-loop : goal.invariant-loop
invariant-loop g l = record {
  out : l.token + l.counter ≡ 64;
  book : l.left.book ≡ g.B.BooksName.books.book;
  count : l.left.count + l.counter ≡ 64;
  few : l.counter ≤ 64;
}
