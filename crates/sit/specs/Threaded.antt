-- What a log that fills holes makes of a segment in its lock.
use Rattle.std.specs.Prelude.{◌≡◌, ℕ, ◌<◌, ◌≤◌, ◌⊎◌, List, slice_index_or, Some, Bool, true, false}
use Rattle.geometry.specs.declared.owner.Owner.{Owner}
use Rattle.geometry.specs.declared.state.State.TheVariants.{Sealed}
use Rattle.geometry.specs.Shape.{segment_blocks}
use Rattle.geometry.specs.Address.{address_of}
use Rattle.geometry.specs.Segment.{IsHole}
use Rattle.tickets.specs.Placed.{Placed}
use Rattle.words.specs.Steps.{life_loaded}
use Rattle.words.specs.Tokens.{Post}
use Rattle.sit.specs.Thread.{Thread, is_threadable, HasBegun, IsNextHole}
use Rattle.sit.specs.Segment.{Segment, fill_of, threaded, HasSpoiledAt}
use Rattle.sit.specs.Registered.{Registered, post_of}

abbrev pub with_thread : Segment → Thread → Segment
with_thread segment thread = record segment { thread = thread }

-- a log has begun to fill the segment's holes, or there is none
abbrev pub HasThreadedSegment : Bool → ℕ → Segment → Segment → Type 0
HasThreadedSegment has log old new = (new ≡ with_thread old new.thread) × HasBegun has log old.summaries old.thread new.thread

-- a load of the segment's pins has shown so many
abbrev pub HasLoaded : ℕ → Post → Post → Type 0
HasLoaded found old new = (new.table ≡ old.table) × (new.life ≡ life_loaded old.life found)

-- A log has begun to fill the segment's holes exactly where it is sealed, no log fills any, the call's own load showed no
-- pin, and there is a hole.
abbrev pub HasThreaded : Bool → ℕ → Registered → Registered → Type 0
HasThreaded true log old new =
    (is_threadable old.segment.state old.segment.thread ≡ true) × HasThreadedSegment true log old.segment new.segment × HasLoaded 0 (post_of old) (post_of new)
HasThreaded false log old new =
    ((is_threadable old.segment.state old.segment.thread ≡ false) × (new ≡ old))
    ⊎ ((found : ℕ) × (found ≤ 64) × HasLoaded found (post_of old) (post_of new)
    × (((0 < found) × (new.segment ≡ old.segment)) ⊎ HasThreadedSegment false log old.segment new.segment))

-- The hole that a log is to fill next: its block is neither valid nor in the last completed checkpoint, and its segment is sealed.
pub record IsItsHole (log : ℕ) (old : Registered) (offset : ℕ) : Type 0 where
  pub next : IsNextHole old.segment.thread log (Some offset)
  pub within : offset < segment_blocks old.segment.shape
  pub state : old.segment.state ≡ Sealed
  pub hole : IsHole (fill_of old.segment) (slice_index_or old.segment.thread.kept offset false) offset

-- A log has filled its next hole with a block, whose ticket is this.
pub record HasFilled (log : ℕ) (owner : Owner) (now : ℕ) (bytes : List ℕ) (old new : Registered) (ticket : Placed) : Type 0 where
  pub offset : ℕ
  pub its : IsItsHole log old offset
  pub mark : ticket.mark ≡ record { address = address_of old.segment.shape old.segment.number offset; owner = owner }
  pub content : ticket.content ≡ bytes
  pub segment : new.segment ≡ threaded old.segment offset owner now new.segment.failed

-- The device failed at the block of a log's next hole, which is a hole still.
pub record HasMissed (log : ℕ) (old new : Registered) : Type 0 where
  pub offset : ℕ
  pub its : IsItsHole log old offset
  pub segment : HasSpoiledAt offset old.segment new.segment
