-- Holes of a sealed segment, which a log fills while no segment is free: threaded logging (Rosenblum and Ousterhout 1991; Linux filesystems/f2fs).
use Rattle.std.specs.Prelude.{◌≡◌, ℕ, List, length, map, replicate, slice_index_or, slice_set, Option, Some, None, Bool, false, true, not}
use Rattle.geometry.specs.declared.owner.Owner.{Owner}
use Rattle.geometry.specs.declared.state.State.{State}
use Rattle.geometry.specs.declared.state.State.TheVariants.{Free, Open, Sealed, Prefree}
use Rattle.sit.specs.Bits.{neither_of, has_true, IsFirstTrue}
use Rattle.sit.specs.Summaries.{is_set}

-- which blocks the last completed checkpoint marks, which holes are still to be filled, and by which log
pub record Thread : Type 0 where
  pub kept : List Bool
  pub holes : List Bool
  pub log : ℕ

-- that of a segment of so many blocks none of which is marked
abbrev pub fresh_thread : ℕ → Thread
fresh_thread blocks = record { kept = replicate blocks false; holes = replicate blocks false; log = 0 }

-- the blocks that are valid are those that the last completed checkpoint marks
abbrev pub keeping : List (Option Owner) → Thread → Thread
keeping summaries thread = record thread { kept = map is_set summaries }

-- a log is to fill all blocks that neither are valid nor were marked
abbrev pub begun : ℕ → List (Option Owner) → Thread → Thread
begun log summaries thread = record thread { holes = neither_of (map is_set summaries) thread.kept; log = log }

-- the hole at a place was filled
abbrev pub filled_at : ℕ → Thread → Thread
filled_at offset thread = record thread { holes = slice_set thread.holes offset false }

-- no hole is left
abbrev pub ended : Thread → Thread
ended thread = record thread { holes = replicate (length thread.holes) false }

-- a thread goes no further than its segment is sealed
abbrev pub thread_after : State → Thread → Thread
thread_after Free thread = thread
thread_after Open thread = thread
thread_after Sealed thread = thread
thread_after Prefree thread = ended thread

-- a log may begin to fill the holes of a segment that is sealed, and none of whose holes another fills
abbrev pub is_threadable : State → Thread → Bool
is_threadable Free thread = false
is_threadable Open thread = false
is_threadable Sealed thread = not (has_true thread.holes)
is_threadable Prefree thread = false

-- a log has begun where there is a hole
abbrev pub HasBegun : Bool → ℕ → List (Option Owner) → Thread → Thread → Type 0
HasBegun true log summaries old new = (new ≡ begun log summaries old) × (has_true new.holes ≡ true)
HasBegun false log summaries old new = (new ≡ old) × (has_true (begun log summaries old).holes ≡ false)

-- the hole that a log is to fill next, the first one; none where it fills no holes of the segment
abbrev pub IsNextHole : Thread → ℕ → Option ℕ → Type 0
IsNextHole thread log None = thread.log ≡ log → has_true thread.holes ≡ false
IsNextHole thread log (Some o) = (thread.log ≡ log) × IsFirstTrue thread.holes 0 (Some o)

-- each hole is neither valid nor marked, and a segment with holes is sealed
abbrev pub AreHoles : State → List (Option Owner) → Thread → Type 0
AreHoles state summaries thread =
    (o : ℕ) → slice_index_or thread.holes o false ≡ true
    → (state ≡ Sealed) × (slice_index_or summaries o None ≡ None) × (slice_index_or thread.kept o false ≡ false)
