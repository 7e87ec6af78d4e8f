-- What lies under the locks of a main area.
use Rattle.std.specs.Prelude.{◌≡◌, ℕ, ◌<◌, length, Option, Some}
use Rattle.atomic_table.specs.Seated.{TableId}
use Rattle.geometry.specs.declared.geometry.Geometry.{Geometry}
use Rattle.geometry.specs.Shape.{segment_blocks}
use Rattle.words.specs.Tokens.{OpenSegment}
use Rattle.sit.specs.Registered.{Registered}

-- a segment of the volume, by its number
pub record IsSegmentOf (geometry : Geometry) (book table : TableId) (number : ℕ) (r : Registered) : Type 0 where
  pub within : number < geometry.segments
  pub shape : r.segment.shape ≡ geometry.shape
  pub number_is : r.segment.number ≡ number
  pub sized : length r.segment.summaries ≡ segment_blocks geometry.shape
  pub book_is : r.book ≡ book
  pub table_is : r.table ≡ table

-- the slip of an open segment: it is of these words, and of one of so many segments
pub record IsOpenOf (table : TableId) (count : ℕ) (slip : OpenSegment) : Type 0 where
  pub table_is : slip.table ≡ table
  pub within : slip.segment < count

-- the slip that a log has, where it has one
abbrev pub LogStands : TableId → ℕ → Option OpenSegment → Type 0
LogStands table count slip = (s : OpenSegment) → slip ≡ Some s → IsOpenOf table count s

-- the segment whose holes a log fills, where it fills some: it is one of so many
abbrev pub LogThreads : ℕ → Option ℕ → Type 0
LogThreads count threads = (s : ℕ) → threads ≡ Some s → s < count
