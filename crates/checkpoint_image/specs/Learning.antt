-- What an audit has learned of rows of segments, shards and files.
use Rattle.std.specs.Prelude.{◌≡◌, ℕ, ◌+◌, List, slice_get, Some}
use Rattle.atomic_table.specs.Seated.{TableId}
use Rattle.geometry.specs.declared.owner.Mark.{Mark}
use Rattle.geometry.specs.Weights.{weigh}
use Rattle.rights_books.specs.declared.claim.Copied.{Copied}
use Rattle.rights_books.specs.declared.claim.Copied.TheVariants.{SegmentCopy, FileCopy, ShardCopy}
use Rattle.rights_books.specs.Accounts.{CensusView, FileView}
use Rattle.rights_books.specs.declared.claim.TakenNumber.{TakenNumber}
use Rattle.rights_books.specs.Weights.{of_entry, marks_copied, taken_copied, tickets_copied, tokens_copied, segment_copy}
use Rattle.sit.specs.Registered.{Registered}
use Rattle.sit.specs.Segment.{marks_of}
use Rattle.nat.specs.Shard.{ShardNodes}

-- the segments 0, 1, 2 and so on, and the shards, of these books
abbrev pub AreSegmentsOf : TableId → List Registered → Type 0
AreSegmentsOf book segments = (k : ℕ) (r : Registered) → slice_get segments k ≡ Some r → (r.segment.number ≡ k) × (r.book ≡ book)

abbrev pub AreShardsOf : TableId → List ShardNodes → Type 0
AreShardsOf book shards = (k : ℕ) (s : ShardNodes) → slice_get shards k ≡ Some s → (s.shard ≡ k) × (s.book ≡ book)

-- it has learned what these segments have, and nothing else
pub record HaveLearnedSegments (segments : List Registered) (old new : CensusView) : Type 0 where
  pub book : new.book ≡ old.book
  pub marks : (h : Mark → ℕ) → weigh (marks_copied h) new.copies ≡ weigh (λ (r : Registered). weigh h (marks_of r.segment)) segments + weigh (marks_copied h) old.copies
  pub numbers : (h : ℕ → ℕ) → weigh (segment_copy h) new.copies ≡ weigh (λ (r : Registered). h r.segment.number) segments + weigh (segment_copy h) old.copies
  pub others : (h : Copied → ℕ) → ((n : ℕ) (marks : List Mark) → h (SegmentCopy n marks) ≡ 0) → weigh h new.copies ≡ weigh h old.copies

-- the same of shards, and of files
pub record HaveLearnedShards (shards : List ShardNodes) (old new : CensusView) : Type 0 where
  pub book : new.book ≡ old.book
  pub copies : (h : Copied → ℕ) → weigh h new.copies ≡ weigh (λ (s : ShardNodes). h (ShardCopy s.shard s.taken)) shards + weigh h old.copies

pub record HaveLearnedFiles (files : List FileView) (old new : CensusView) : Type 0 where
  pub book : new.book ≡ old.book
  pub copies : (h : Copied → ℕ) → weigh h new.copies ≡ weigh (λ (f : FileView). h (FileCopy f.inode f.tickets f.tokens)) files + weigh h old.copies

-- what these copies weigh is what all segments, shards and files have
pub record AreLearned (segments : List Registered) (shards : List ShardNodes) (files : List FileView) (copies : List Copied) : Type 0 where
  pub marks : (h : Mark → ℕ) → weigh (marks_copied h) copies ≡ weigh (λ (r : Registered). weigh h (marks_of r.segment)) segments
  pub taken : (h : TakenNumber → ℕ) → weigh (taken_copied h) copies ≡ weigh (λ (s : ShardNodes). weigh h s.taken) shards
  pub tickets : (h : Mark → ℕ) → weigh (tickets_copied h) copies
      ≡ weigh (λ (f : FileView). weigh h f.tickets) files + weigh (λ (s : ShardNodes). weigh (of_entry h) s.taken) shards
  pub tokens : (h : TakenNumber → ℕ) → weigh (tokens_copied h) copies ≡ weigh (λ (f : FileView). weigh h f.tokens) files
