use Rattle.std.proofs.Common.{◌≡◌, ℕ, ◌+◌, ◌-◌, [], ◌++◌, length, slice_get, drop, Some, None}
use Rattle.rights_books.specs.declared.claim.Claim.TheVariants.{File}
use Rattle.rights_books.specs.Rules.{each_from}
use Rattle.rights_books.specs.Accounts.{FileView}
use Rattle.rights_books.proofs.books.Books.deal_files.Given as goal

abbrev pub invariant-loop : goal.invariant-loop
invariant-loop l = record {
  book : l.dealer.book ≡ l.self.book;
  claims : l.dealer.claims ≡ each_from (l.counter + 1) (l.count - l.counter) (λ n. File n [] [] None) ++ drop l.count l.initial.dealer.claims;
  count : length l.files.items ≡ l.counter;
  items : (k : ℕ) (v : FileView) → slice_get l.files.items k ≡ Some v → v ≡ record { book = l.self.book; inode = k + 1; tickets = []; tokens = []; content = None };
}
