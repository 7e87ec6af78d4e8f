-- What lay in the locks of a main area, in rows.
use Rattle.std.specs.Prelude.{◌≡◌, ℕ, ◌-◌, ◌<◌, ◌+◌, List, [], Some, length, slice_get, slice_index_or}
use Rattle.atomic_table.specs.Seated.{TableId}
use Rattle.geometry.specs.declared.geometry.Geometry.{Geometry}
use Rattle.geometry.specs.declared.shape.Shape.{Shape}
use Rattle.rights_books.specs.Accounts.{FileView}
use Rattle.nat.specs.Shard.{ShardNodes}
use Rattle.nat.specs.Table.{IsShardAt}
use Rattle.sit.specs.Registered.{Registered}
use Rattle.sit.specs.Segment.{Segment}
use Rattle.sit.specs.Summaries.{count_of}
use Rattle.area.specs.Cells.{IsSegmentOf}

-- the segments, and the shards, of a volume from 0 on
abbrev pub AreSegments : Geometry → TableId → TableId → List Registered → Type 0
AreSegments geometry book table segments = (k : ℕ) (other : Registered) → k < length segments → IsSegmentOf geometry book table k (slice_index_or segments k other)

abbrev pub AreShards : TableId → ℕ → List ShardNodes → Type 0
AreShards book nodes shards = (k : ℕ) (s : ShardNodes) → slice_get shards k ≡ Some s → IsShardAt book nodes k s

-- an account of these books that has lodged nothing
pub record HasNothing (book : TableId) (inode : ℕ) (account : FileView) : Type 0 where
  pub inode_is : account.inode ≡ inode
  pub book_is : account.book ≡ book
  pub no_tickets : account.tickets ≡ []
  pub no_tokens : account.tokens ≡ []

-- the accounts of the files from inode 1 on, each with nothing lodged
abbrev pub HaveNothing : TableId → List FileView → Type 0
HaveNothing book files = (k : ℕ) (v : FileView) → slice_get files k ≡ Some v → HasNothing book (k + 1) v

-- a segment of this number that has no valid block
pub record IsEmpty (shape : Shape) (number : ℕ) (segment : Segment) : Type 0 where
  pub shape_is : segment.shape ≡ shape
  pub number_is : segment.number ≡ number
  pub none : count_of segment.summaries ≡ 0

-- such segments from 0 on, and the last of so many first
abbrev pub AreEmpty : Shape → List Registered → Type 0
AreEmpty shape segments = (k : ℕ) (other : Registered) → k < length segments → IsEmpty shape k (slice_index_or segments k other).segment

abbrev pub AreEmptyFalling : Shape → ℕ → List Registered → Type 0
AreEmptyFalling shape count segments = (k : ℕ) (other : Registered) → k < length segments → IsEmpty shape (count - 1 - k) (slice_index_or segments k other).segment
