-- What an audit has learned of a segment.
use Rattle.std.specs.Prelude.{◌≡◌, ℕ, ◌+◌, List}
use Rattle.geometry.specs.declared.owner.Mark.{Mark}
use Rattle.geometry.specs.Weights.{weigh}
use Rattle.rights_books.specs.declared.claim.Copied.{Copied}
use Rattle.rights_books.specs.declared.claim.Copied.TheVariants.{SegmentCopy}
use Rattle.rights_books.specs.Accounts.{CensusView}
use Rattle.rights_books.specs.Weights.{marks_copied, segment_copy}
use Rattle.sit.specs.Segment.{Segment, marks_of}

-- it has learned its valid blocks, by its number, and nothing else
pub record HasLearned (segment : Segment) (old new : CensusView) : Type 0 where
  pub book : new.book ≡ old.book
  pub marks : (h : Mark → ℕ) → weigh (marks_copied h) new.copies ≡ weigh h (marks_of segment) + weigh (marks_copied h) old.copies
  pub number : (h : ℕ → ℕ) → weigh (segment_copy h) new.copies ≡ h segment.number + weigh (segment_copy h) old.copies
  pub others : (h : Copied → ℕ) → ((n : ℕ) (marks : List Mark) → h (SegmentCopy n marks) ≡ 0) → weigh h new.copies ≡ weigh h old.copies
