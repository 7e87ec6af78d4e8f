-- What a completed checkpoint has to do with each segment (Linux filesystems/f2fs: the bits of the last checkpoint, and pre-free segments).
use Rattle.std.specs.Prelude.{◌≡◌, ◌≢◌, ◌<◌, ◌↔◌, ℕ, List, IsTrue, Some, map, length, slice_get, slice_index_or}
use Rattle.geometry.specs.declared.state.State.TheVariants.{Prefree}
use Rattle.sit.specs.Summaries.{is_set}
use Rattle.sit.specs.Registered.{Registered}
use Rattle.area.specs.declared.unsettled.SegmentTask.{SegmentTask}

-- a segment is told its bits where they are not those of the last checkpoint, and freed where it is retired
pub record IsTurnOf (r : Registered) (turn : SegmentTask) : Type 0 where
  pub keep : IsTrue turn.keep ↔ (r.segment.thread.kept ≢ map is_set r.segment.summaries)
  pub free : IsTrue turn.free ↔ (r.segment.state ≡ Prefree)

-- each of these turns is that of the segment of its number
abbrev pub AreTurnsOf : List Registered → List SegmentTask → Type 0
AreTurnsOf segments turns =
    (k : ℕ) (r : Registered) (other : SegmentTask) → slice_get segments k ≡ Some r → k < length turns → IsTurnOf r (slice_index_or turns k other)
