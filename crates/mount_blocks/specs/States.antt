-- The segments of a volume that is mounted, as an image shows them (Linux filesystems/f2fs, segment information table).
use Rattle.std.specs.Prelude.{◌≡◌, ◌≢◌, ℕ, ◌+◌, ◌-◌, ◌<◌, ◌≤◌, List, length, Option, Some, None, slice_index_or, nat_lt, if◌then◌else◌}
use Rattle.atomic_table.specs.Seated.{TableId}
use Rattle.geometry.specs.Weights.{weigh}
use Rattle.geometry.specs.declared.geometry.Geometry.{Geometry}
use Rattle.geometry.specs.declared.owner.Owner.{Owner}
use Rattle.geometry.specs.declared.state.State.{State}
use Rattle.geometry.specs.declared.state.State.TheVariants.{Free, Open, Sealed, Prefree}
use Rattle.geometry.specs.Shape.{segment_blocks}
use Rattle.geometry.specs.Address.{address_of}
use Rattle.image.specs.declared.image.LogHead.{LogHead}
use Rattle.image.specs.Image.{Image, info_of}
use Rattle.words.specs.Tokens.{FreeSegment, OpenSegment, fresh_slip}
use Rattle.sit.specs.Registered.{Registered}
use Rattle.mount_blocks.specs.Marked.{marked_owner}

-- from a place on, the summaries of a segment say who owns each block that the image marks
pub record HasOwners (geometry : Geometry) (image : Image) (segment from : ℕ) (summaries : List (Option Owner)) : Type 0 where
  pub sized : length summaries ≡ segment_blocks geometry.shape
  pub owners : (offset : ℕ) → from ≤ offset → offset < segment_blocks geometry.shape
      → slice_index_or summaries offset None ≡ marked_owner geometry image (address_of geometry.shape segment offset)

-- no log stands in a segment
abbrev pub HasNoLog : Image → ℕ → Type 0
HasNoLog image segment = (log : ℕ) (place : LogHead) → slice_index_or image.logs log None ≡ Some place → place.segment ≢ segment

-- the log that stands in a segment with its place, or none does
abbrev pub IsLogIn : Image → ℕ → Option (ℕ × LogHead) → Type 0
IsLogIn image segment None = HasNoLog image segment
IsLogIn image segment (Some found) = (slice_index_or image.logs found.0 None ≡ Some found.1) × (found.1.segment ≡ segment)

-- A segment in which a log stands is open, with the log's next place. Another is free where no block of it is valid, and else sealed.
pub record IsStateIn (image : Image) (segment : ℕ) (state : State) (next : ℕ) : Type 0 where
  pub open_at : (log : ℕ) (place : LogHead) → slice_index_or image.logs log None ≡ Some place → place.segment ≡ segment → (state ≡ Open) × (next ≡ place.next)
  pub free : HasNoLog image segment → (info_of image segment).count ≡ 0 → state ≡ Free
  pub sealed : HasNoLog image segment → 0 < (info_of image segment).count → state ≡ Sealed

-- A segment of these books and words as the image shows it.
pub record IsSegmentIn (geometry : Geometry) (image : Image) (book table : TableId) (number : ℕ) (r : Registered) : Type 0 where
  pub within : number < geometry.segments
  pub shape : r.segment.shape ≡ geometry.shape
  pub number_is : r.segment.number ≡ number
  pub owners : HasOwners geometry image number 0 r.segment.summaries
  pub mtime : r.segment.mtime ≡ (info_of image number).mtime
  pub state : IsStateIn image number r.segment.state r.segment.next
  pub book_is : r.book ≡ book
  pub table_is : r.table ≡ table

-- n where the state is free
abbrev pub when_free : State → ℕ → ℕ
when_free Free n = n
when_free Open n = 0
when_free Sealed n = 0
when_free Prefree n = 0

-- what the slip of a segment weighs, where it is free
abbrev pub slip_weight : (FreeSegment → ℕ) → Registered → ℕ
slip_weight h r = when_free r.segment.state (h (fresh_slip r.table r.segment.number))

-- the slip of the segment in which a log stands, where that is one from a number on
abbrev pub slip_from : TableId → ℕ → Option LogHead → Option OpenSegment
slip_from table from None = None
slip_from table from (Some place) = if nat_lt place.segment from then None else Some (record { table = table; segment = place.segment })

-- The segments from a number on as the image shows them, the last one first, with the slips of those that are free and of
-- those in which the logs stand.
pub record AreSegmentsFrom (geometry : Geometry) (image : Image) (book table : TableId) (from : ℕ) (states : List Registered) (free : List FreeSegment) (logs : List (Option OpenSegment)) : Type 0 where
  pub count : length states + from ≡ geometry.segments
  pub each : (k : ℕ) (other : Registered) → k < length states → IsSegmentIn geometry image book table (geometry.segments - 1 - k) (slice_index_or states k other)
  pub slips : (h : FreeSegment → ℕ) → weigh h free ≡ weigh (slip_weight h) states
  pub six : length logs ≡ 6
  pub opened : (log : ℕ) → slice_index_or logs log None ≡ slip_from table from (slice_index_or image.logs log None)
