-- What the segments of a volume are put together from, before their blocks come.
use Rattle.std.specs.Prelude.{◌≡◌, ℕ, ◌<◌, List, [], length, slice_index_or}
use Rattle.atomic_table.specs.Seated.{TableId}
use Rattle.geometry.specs.declared.shape.Shape.{Shape}
use Rattle.rights_books.specs.Accounts.{SegmentView}
use Rattle.words.specs.Tokens.{Post, FreeSegment, fresh_post, fresh_slip}
use Rattle.sit.specs.Room.{RoomOf}

-- The memory of the segments from 0 on, their accounts with nothing in them, the standings of new segments, and the slips
-- of free ones.
pub record AreRights (shape : Shape) (book table : TableId) (rooms : List RoomOf) (accounts : List SegmentView) (standings : List Post) (slips : List FreeSegment) : Type 0 where
  pub rooms_are : (k : ℕ) (other : RoomOf) → k < length rooms → slice_index_or rooms k other ≡ record { shape = shape; number = k }
  pub accounts_are : (k : ℕ) (other : SegmentView) → k < length accounts → slice_index_or accounts k other ≡ record { book = book; segment = k; marks = [] }
  pub standings_are : (k : ℕ) (other : Post) → k < length standings → slice_index_or standings k other ≡ fresh_post table k
  pub slips_are : (k : ℕ) (other : FreeSegment) → k < length slips → slice_index_or slips k other ≡ fresh_slip table k
  pub accounts_count : length accounts ≡ length rooms
  pub standings_count : length standings ≡ length rooms
  pub slips_count : length slips ≡ length rooms

-- What a segment of this number is put together from.
pub record IsRightOf (shape : Shape) (book table : TableId) (number : ℕ) (room : RoomOf) (account : SegmentView) (standing : Post) (slip : FreeSegment) : Type 0 where
  pub room_is : room ≡ record { shape = shape; number = number }
  pub account_is : account ≡ record { book = book; segment = number; marks = [] }
  pub standing_is : standing ≡ fresh_post table number
  pub slip_is : slip ≡ fresh_slip table number
