use Rattle.std.proofs.Common.{◌≡◌, ℕ, ◌+◌, take}
use Rattle.geometry.specs.Weights.{weigh}
use Rattle.rights_books.specs.Weights.{file_copy, past}
use Rattle.rights_books.specs.declared.claim.Copied.{Copied}
use Rattle.rights_books.specs.declared.claim.Copied.TheVariants.{FileCopy}
use Rattle.rights_books.proofs.books.Books.learn_files.Given as goal

abbrev pub invariant-loop-i : goal.invariant-loop-i
invariant-loop-i l = record {
  book : l.audit.book ≡ l.initial.audit.book;
  same : l.files.items ≡ l.initial.files.items;
  fresh : weigh (file_copy (past (l.i + 1))) l.audit.copies ≡ 0;
  copies : (h : Copied → ℕ) → weigh h l.audit.copies ≡ weigh (λ v. h (FileCopy v.inode v.tickets v.tokens)) (take l.i l.initial.files.items) + weigh h l.initial.audit.copies;
}
