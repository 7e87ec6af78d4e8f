-- A segment in its lock: its blocks, and the rights to it, which the books and the words keep.
use Rattle.std.specs.Prelude.{◌≡◌, Option, None}
use Rattle.atomic_table.specs.Seated.{TableId}
use Rattle.geometry.specs.declared.state.State.{State}
use Rattle.geometry.specs.declared.state.State.TheVariants.{Free, Open, Sealed, Prefree}
use Rattle.geometry.specs.Shape.{segment_blocks}
use Rattle.geometry.specs.Weights.{SameItems}
use Rattle.rights_books.specs.ClaimRules.{Ruled}
use Rattle.rights_books.specs.declared.claim.Layout.{Layout}
use Rattle.rights_books.specs.Accounts.{SegmentView}
use Rattle.rights_books.specs.PartRow.{PartName}
use Rattle.words.specs.declared.claim.Life.{Life}
use Rattle.words.specs.Tokens.{Post, OpenSegment, IsSealed, IsRetired}
use Rattle.sit.specs.declared.segment.Released.{Released}
use Rattle.sit.specs.declared.segment.Released.TheVariants.{Kept, Retired}
use Rattle.sit.specs.Segment.{Segment, marks_of}

-- the segment, the books and the words that it is of, what its standing knows of its life, and which part its row is of, where it has an account of it
pub record Registered : Type 0 where
  pub segment : Segment
  pub book : TableId
  pub table : TableId
  pub life : Life
  pub part : Option PartName

-- The books have its valid blocks, each with who names it, and the words have its state.
pub record IsRegistered (segment : Segment) (account : SegmentView) (life : Life) : Type 0 where
  pub number : segment.number ≡ life.segment
  pub state : segment.state ≡ life.state
  pub account_number : account.segment ≡ life.segment
  pub marks : SameItems account.marks (marks_of segment)

-- the books that the segment is of, in which its segments have as many blocks
abbrev pub AreItsBooks : Ruled Layout → Registered → Type 0
AreItsBooks books r = (books.book ≡ r.book) × (books.key.blocks ≡ segment_blocks r.segment.shape)

-- its standing
abbrev pub post_of : Registered → Post
post_of r = record { table = r.table; life = r.life }

-- the slip that it has while it is open
abbrev pub slip_of : Registered → OpenSegment
slip_of r = record { table = r.table; segment = r.segment.number }

-- it is of the same books and words, and the same part
abbrev pub IsSameBook : Registered → Registered → Type 0
IsSameBook old new = (new.book ≡ old.book) × (new.table ≡ old.table) × (new.part ≡ old.part)

-- A standing after a block was placed, by the state that the segment has then: it is sealed, or nothing has changed.
abbrev pub HasLivedOn : State → Post → Post → Type 0
HasLivedOn Free old new = new ≡ old
HasLivedOn Open old new = new ≡ old
HasLivedOn Sealed old new = IsSealed old new
HasLivedOn Prefree old new = new ≡ old

-- the slip of a segment that has this state: it is spent where the segment was sealed
abbrev pub slip_after : State → Option OpenSegment → Option OpenSegment
slip_after Free slip = slip
slip_after Open slip = slip
slip_after Sealed slip = None
slip_after Prefree slip = slip

-- A standing after a valid block was lost: where that was the last one of a sealed segment, it is retired.
abbrev pub HasStood : Released → Post → Post → Type 0
HasStood Kept old new = new ≡ old
HasStood Retired old new = IsRetired old new
