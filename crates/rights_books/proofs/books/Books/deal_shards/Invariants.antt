use Rattle.std.proofs.Common.{◌≡◌, ℕ, ◌+◌, ◌-◌, [], ◌++◌, length, slice_get, drop, Some}
use Rattle.rights_books.specs.declared.claim.Claim.TheVariants.{Shard}
use Rattle.rights_books.specs.Rules.{each_from}
use Rattle.rights_books.specs.Accounts.{ShardView}
use Rattle.rights_books.proofs.books.Books.deal_shards.Given as goal

abbrev pub invariant-loop : goal.invariant-loop
invariant-loop l = record {
  book : l.dealer.book ≡ l.self.book;
  claims : l.dealer.claims ≡ each_from (l.counter + 0) (l.count - l.counter) (λ n. Shard n []) ++ drop l.count l.initial.dealer.claims;
  count : length l.shards.items ≡ l.counter;
  items : (k : ℕ) (v : ShardView) → slice_get l.shards.items k ≡ Some v → v ≡ record { book = l.self.book; shard = k; taken = [] };
}
