use Rattle.std.proofs.Common.{◌≡◌, ℕ, ◌+◌, take}
use Rattle.geometry.specs.Weights.{weigh}
use Rattle.rights_books.specs.Weights.{shard_copy, past}
use Rattle.rights_books.specs.declared.claim.Copied.{Copied}
use Rattle.rights_books.specs.declared.claim.Copied.TheVariants.{ShardCopy}
use Rattle.rights_books.proofs.books.Books.learn_shards.Given as goal

abbrev pub invariant-loop-i : goal.invariant-loop-i
invariant-loop-i l = record {
  book : l.audit.book ≡ l.initial.audit.book;
  same : l.shards.items ≡ l.initial.shards.items;
  fresh : weigh (shard_copy (past l.i)) l.audit.copies ≡ 0;
  copies : (h : Copied → ℕ) → weigh h l.audit.copies ≡ weigh (λ v. h (ShardCopy v.shard v.taken)) (take l.i l.initial.shards.items) + weigh h l.initial.audit.copies;
}
