use Rattle.std.proofs.Common.{◌≡◌, ℕ, ◌+◌, take}
use Rattle.geometry.specs.Weights.{weigh}
use Rattle.rights_books.specs.Weights.{segment_copy, past}
use Rattle.rights_books.specs.declared.claim.Copied.{Copied}
use Rattle.rights_books.specs.declared.claim.Copied.TheVariants.{SegmentCopy}
use Rattle.rights_books.proofs.books.Books.learn_segments.Given as goal

abbrev pub invariant-loop-i : goal.invariant-loop-i
invariant-loop-i l = record {
  book : l.audit.book ≡ l.initial.audit.book;
  same : l.segments.items ≡ l.initial.segments.items;
  fresh : weigh (segment_copy (past l.i)) l.audit.copies ≡ 0;
  copies : (h : Copied → ℕ) → weigh h l.audit.copies ≡ weigh (λ v. h (SegmentCopy v.segment v.marks)) (take l.i l.initial.segments.items) + weigh h l.initial.audit.copies;
}
