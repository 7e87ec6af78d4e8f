-- The segments of a volume, and their memory, while blocks come into them and out of them.
use Rattle.std.specs.Prelude.{◌≡◌, ℕ, ◌-◌, ◌<◌, List, [], None, length, replicate, slice_index_or}
use Rattle.atomic_table.specs.Seated.{TableId}
use Rattle.geometry.specs.declared.shape.Shape.{Shape}
use Rattle.geometry.specs.Shape.{segment_blocks}
use Rattle.rights_books.specs.Accounts.{SegmentView}
use Rattle.words.specs.Tokens.{Post, FreeSegment, fresh_post, fresh_slip}
use Rattle.sit.specs.Room.{RoomOf}
use Rattle.sit.specs.Registered.{Registered}

-- the rooms of segments 0 and on
abbrev pub AreRooms : Shape → List RoomOf → Type 0
AreRooms shape rooms = (k : ℕ) (other : RoomOf) → k < length rooms → slice_index_or rooms k other ≡ record { shape = shape; number = k }

-- a segment of this number, of these books and words, that has no valid block
pub record IsBare (shape : Shape) (book table : TableId) (number : ℕ) (r : Registered) : Type 0 where
  pub shape_is : r.segment.shape ≡ shape
  pub number_is : r.segment.number ≡ number
  pub none : r.segment.summaries ≡ replicate (segment_blocks shape) None
  pub book_is : r.book ≡ book
  pub table_is : r.table ≡ table

-- such segments, the last of so many first
abbrev pub BareFallFrom : Shape → TableId → TableId → ℕ → List Registered → Type 0
BareFallFrom shape book table count segments = (k : ℕ) (other : Registered) → k < length segments → IsBare shape book table (count - 1 - k) (slice_index_or segments k other)

-- the slips of free segments, the last of so many first
abbrev pub SlipsFallFrom : TableId → ℕ → List FreeSegment → Type 0
SlipsFallFrom table count slips = (k : ℕ) (other : FreeSegment) → k < length slips → slice_index_or slips k other ≡ fresh_slip table (count - 1 - k)

-- for how many segments there are rights, and which books and words they are of
pub record RightsTo : Type 0 where
  pub segments : ℕ
  pub book : TableId
  pub table : TableId

-- the accounts of segments 0 and on, with nothing in them, and the standings of new segments
abbrev pub AreAccounts : TableId → List SegmentView → Type 0
AreAccounts book accounts = (k : ℕ) (other : SegmentView) → k < length accounts → slice_index_or accounts k other ≡ record { book = book; segment = k; marks = [] }

abbrev pub ArePosts : TableId → List Post → Type 0
ArePosts table posts = (k : ℕ) (other : Post) → k < length posts → slice_index_or posts k other ≡ fresh_post table k
