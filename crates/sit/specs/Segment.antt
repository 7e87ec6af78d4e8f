-- What contracts see of a segment, and its law.
use Rattle.std.specs.Prelude.{◌≡◌, ℕ, ◌<◌, ◌≤◌, ◌⊎◌, max, List, [], Option, None, map, length, slice_index_or, slice_set}
use Rattle.geometry.specs.declared.shape.Shape.{Shape}
use Rattle.geometry.specs.declared.state.State.{State}
use Rattle.geometry.specs.declared.state.State.TheVariants.{Free, Open, Sealed, Prefree}
use Rattle.geometry.specs.declared.owner.Owner.{Owner}
use Rattle.geometry.specs.declared.owner.Mark.{Mark}
use Rattle.geometry.specs.Shape.{segment_blocks, block_bytes}
use Rattle.geometry.specs.Address.{address_of}
use Rattle.geometry.specs.Segment.{Fill, unfilled, named, filled, vacated, fill_after}
use Rattle.sit.specs.Home.{Home}
use Rattle.sit.specs.Summaries.{is_clear, count_of, marks_from}
use Rattle.sit.specs.Thread.{Thread, fresh_thread, thread_after, filled_at, AreHoles}

-- a segment: its shape and number, where it is in its life, who names each of its blocks, the largest time of an append, the place of the next one, the bytes of each block that is at home, how often these have failed, all together, and the holes that a log fills
pub record Segment : Type 0 where
  pub shape : Shape
  pub number : ℕ
  pub state : State
  pub summaries : List (Option Owner)
  pub mtime : ℕ
  pub next : ℕ
  pub contents : List (List ℕ)
  pub failed : ℕ
  pub thread : Thread

-- What a segment's state says of its blocks: one that is free or retired has no valid block, an open one has a next place and none at or past it, a sealed one has some.
abbrev pub IsFitting : State → ℕ → List (Option Owner) → Type 0
IsFitting Free next summaries = count_of summaries ≡ 0
IsFitting Open next summaries = (next < length summaries) × ((o : ℕ) → next ≤ o → slice_index_or summaries o None ≡ None)
IsFitting Sealed next summaries = 0 < count_of summaries
IsFitting Prefree next summaries = count_of summaries ≡ 0

-- The law of a segment. A block is at home exactly where nobody names it. Each hole is neither valid nor in the last completed checkpoint, and only a sealed segment has some.
pub record SegmentLaw (segment : Segment) (home : Home) : Type 0 where
  pub sized : length segment.summaries ≡ segment_blocks segment.shape
  pub home_is : home ≡ record { first = address_of segment.shape segment.number 0; block_bytes = block_bytes segment.shape; present = map is_clear segment.summaries; contents = segment.contents; failed = segment.failed }
  pub fitting : IsFitting segment.state segment.next segment.summaries
  pub kept_sized : length segment.thread.kept ≡ segment_blocks segment.shape
  pub holes_sized : length segment.thread.holes ≡ segment_blocks segment.shape
  pub holes_are : AreHoles segment.state segment.summaries segment.thread

-- the valid blocks, with who names each
abbrev pub marks_of : Segment → List Mark
marks_of segment = marks_from (address_of segment.shape segment.number 0) segment.summaries

-- What each call makes of a segment. Its fill changes as that of a segment of the core machine does.

-- how it is filled
abbrev pub fill_of : Segment → Fill
fill_of segment = record { owners = segment.summaries; next = segment.next }

abbrev pub with_fill : Segment → Fill → Segment
with_fill segment fill = record segment { summaries = fill.owners; next = fill.next }

abbrev pub in_state : Segment → State → Segment
in_state segment state = record segment { state = state }

-- as a format leaves it, which writes to no block
abbrev pub fresh : Shape → ℕ → List (List ℕ) → ℕ → Segment
fresh shape number contents failed =
    let fill = unfilled (segment_blocks shape) in
    record { shape = shape; number = number; state = Free; summaries = fill.owners; mtime = 0; next = fill.next; contents = contents; failed = failed; thread = fresh_thread (segment_blocks shape) }

-- the next block is valid, named by this owner, and not at home any more; the blocks that stay keep their bytes, and have failed so often
abbrev pub placed : Segment → Owner → ℕ → ℕ → Segment
placed segment owner now failed =
    record (with_fill segment (filled owner (fill_of segment))) {
      mtime = max segment.mtime now;
      contents = slice_set segment.contents segment.next [];
      failed = failed;
    }

-- the block in a hole is valid, named by this owner, and not at home any more; the next place stays
abbrev pub threaded : Segment → ℕ → Owner → ℕ → ℕ → Segment
threaded segment offset owner now failed =
    record (with_fill segment (named offset owner (fill_of segment))) {
      mtime = max segment.mtime now;
      contents = slice_set segment.contents offset [];
      failed = failed;
      thread = filled_at offset segment.thread;
    }

-- the device failed at the block of a place, which holds these bytes now; nothing else was changed
abbrev pub spoiled_at : Segment → ℕ → List ℕ → ℕ → Segment
spoiled_at segment offset bytes failed = record segment { contents = slice_set segment.contents offset bytes; failed = failed }

-- any bytes are at a place, as many as a block has
abbrev pub HasSpoiledAt : ℕ → Segment → Segment → Type 0
HasSpoiledAt offset old new = (bytes : List ℕ) × (length bytes ≡ block_bytes old.shape) × (new ≡ spoiled_at old offset bytes new.failed)

-- any bytes are at the next place
abbrev pub spoiled : Segment → List ℕ → ℕ → Segment
spoiled segment bytes failed = spoiled_at segment segment.next bytes failed

abbrev pub HasSpoiled : Segment → Segment → Type 0
HasSpoiled old new = HasSpoiledAt old.next old new

-- the block at this place is not valid any more; it comes home with its bytes, and the blocks that are there then have failed so often
abbrev pub cleared : Segment → ℕ → List ℕ → ℕ → Segment
cleared segment offset bytes failed =
    record (with_fill segment (vacated offset (fill_of segment))) { contents = slice_set segment.contents offset bytes; failed = failed }

-- it comes into a state of its life
abbrev pub entered : Segment → State → Segment
entered segment state = record (in_state (with_fill segment (fill_after state (fill_of segment))) state) { thread = thread_after state segment.thread }

-- a segment is open as long as it has a next place, and then sealed (Linux filesystems/f2fs)
abbrev pub IsStateAt : ℕ → ℕ → State → Type 0
IsStateAt next places state = ((next < places) × (state ≡ Open)) ⊎ ((next ≡ places) × (state ≡ Sealed))

-- A segment in which a block was placed: where that was the last place, it is sealed in the same step.
abbrev pub HasPlaced : Segment → Segment → Type 0
HasPlaced placed new = (new ≡ in_state placed new.state) × IsStateAt placed.next (segment_blocks placed.shape) new.state
