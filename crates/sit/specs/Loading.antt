-- A segment while its blocks come in, the last one first.
use Rattle.std.specs.Prelude.{◌≡◌, ℕ, ◌<◌, ◌≤◌, List, Option, Some, None, false, length, slice_index_or, slice_set}
use Rattle.atomic_table.specs.Seated.{TableId}
use Rattle.geometry.specs.declared.shape.Shape.{Shape}
use Rattle.geometry.specs.declared.owner.Owner.{Owner}
use Rattle.geometry.specs.Shape.{segment_blocks, block_bytes}
use Rattle.geometry.specs.Address.{address_of}
use Rattle.geometry.specs.Weights.{SameItems}
use Rattle.rights_books.specs.ClaimRules.{Ruled}
use Rattle.rights_books.specs.declared.claim.Layout.{Layout}
use Rattle.rights_books.specs.Accounts.{SegmentView}
use Rattle.geometry.specs.declared.state.State.{State}
use Rattle.words.specs.Tokens.{Post, OpenSegment, IsOpened, IsSealed}
use Rattle.sit.specs.Segment.{Segment}
use Rattle.sit.specs.Home.{Home}
use Rattle.sit.specs.Summaries.{is_clear, marks_from}
use Rattle.sit.specs.Thread.{Thread, fresh_thread, keeping}

-- the blocks from place `left` on have come, the summaries say who names each of them, and the contents are the bytes of those at home
pub record Loaded : Type 0 where
  pub shape : Shape
  pub number : ℕ
  pub book : TableId
  pub left : ℕ
  pub summaries : List (Option Owner)
  pub contents : List (List ℕ)
  pub failed : ℕ

-- Of the blocks that have come those are at home that nobody names. The books have the others, each with who names it.
pub record IsLoading (shape : Shape) (number left : ℕ) (home : Home) (summaries : List (Option Owner)) (thread : Thread) (account : SegmentView) : Type 0 where
  pub few : left ≤ segment_blocks shape
  pub sized : length summaries ≡ segment_blocks shape
  pub as_many : length home.present ≡ segment_blocks shape
  pub first : home.first ≡ address_of shape number 0
  pub bytes : home.block_bytes ≡ block_bytes shape
  pub come : (k : ℕ) → left ≤ k → k < segment_blocks shape → slice_index_or home.present k false ≡ is_clear (slice_index_or summaries k None)
  pub missing : (k : ℕ) → k < left → slice_index_or home.present k false ≡ false
  pub unnamed : (k : ℕ) → k < left → slice_index_or summaries k None ≡ None
  pub thread_is : thread ≡ fresh_thread (segment_blocks shape)
  pub account_number : account.segment ≡ number
  pub marks : SameItems account.marks (marks_from (address_of shape number 0) summaries)

-- the bytes at home once a block with these bytes has come to a place: it stays only where nobody names it
abbrev pub contents_put : List (List ℕ) → ℕ → List ℕ → Option Owner → List (List ℕ)
contents_put contents place bytes None = slice_set contents place bytes
contents_put contents place bytes (Some owner) = contents

-- the books that it is of, in which its segments have as many blocks
abbrev pub AreItsBooks : Ruled Layout → Loaded → Type 0
AreItsBooks books s = (books.book ≡ s.book) × (books.key.blocks ≡ segment_blocks s.shape)

-- the segment, once all blocks have come; the last completed checkpoint is the one that it is loaded from
abbrev pub loaded_segment : Loaded → State → ℕ → ℕ → Segment
loaded_segment s state next mtime =
    record { shape = s.shape; number = s.number; state = state; summaries = s.summaries; mtime = mtime; next = next; contents = s.contents; failed = s.failed; thread = keeping s.summaries (fresh_thread (segment_blocks s.shape)) }

-- The account of a segment: the books have its valid blocks, each with who names it.
pub record IsAccountOf (s : Loaded) (account : SegmentView) : Type 0 where
  pub book_is : account.book ≡ s.book
  pub number_is : account.segment ≡ s.number
  pub marks : SameItems account.marks (marks_from (address_of s.shape s.number 0) s.summaries)

-- a standing whose segment was opened and sealed
abbrev pub HasLoadedSealed : Post → Post → Type 0
HasLoadedSealed old new = (opened : Post) × (slip : OpenSegment) × IsOpened old slip opened × IsSealed opened new
