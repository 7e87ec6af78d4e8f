use Rattle.std.proofs.Common.{◌≡◌, ◌+◌, ◌-◌, length}
use Rattle.rights_books.specs.RowRules.{pairs_from}
use Rattle.rights_books.specs.RowAccounts.{AreBlank}
use Rattle.rights_books.proofs.rows.Rows.deal.Given as goal

abbrev pub invariant-loop : goal.invariant-loop
invariant-loop l = record {
  book : l.holder.book ≡ l.self;
  claims : l.holder.claims ≡ pairs_from l.counter (l.count - l.counter);
  every_part : length l.parts.items ≡ l.counter;
  parts : AreBlank l.self l.parts.items;
  every_kept : length l.twins.items ≡ l.counter;
  kept : AreBlank l.self l.twins.items;
}
