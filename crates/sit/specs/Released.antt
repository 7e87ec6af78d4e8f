-- What becomes of a segment that has lost a valid block.
use Rattle.std.specs.Prelude.{◌≡◌, ℕ, ◌<◌}
use Rattle.geometry.specs.declared.state.State.{State}
use Rattle.geometry.specs.declared.state.State.TheVariants.{Sealed, Prefree}
use Rattle.sit.specs.declared.segment.Released.{Released}
use Rattle.sit.specs.declared.segment.Released.TheVariants.{Kept, Retired}
use Rattle.sit.specs.Summaries.{count_of}
use Rattle.sit.specs.Segment.{Segment, entered}
use Rattle.sit.specs.Thread.{Thread, ended}

-- a sealed segment is retired exactly where none of its blocks is valid (Linux filesystems/f2fs, prefree segments)
abbrev pub HasReleased : Segment → Released → Segment → Type 0
HasReleased old Kept new = (new ≡ old) × (old.state ≡ Sealed → 0 < count_of old.summaries)
HasReleased old Retired new = (new ≡ entered old Prefree) × (old.state ≡ Sealed) × (count_of old.summaries ≡ 0)

-- the state in which a segment is left that was in a state and has so many valid blocks
abbrev pub IsFate : State → ℕ → State → Released → Type 0
IsFate state valid next Kept = (next ≡ state) × (state ≡ Sealed → 0 < valid)
IsFate state valid next Retired = (next ≡ Prefree) × (state ≡ Sealed) × (valid ≡ 0)

-- no hole is left of a segment that is retired
abbrev pub thread_left : Released → Thread → Thread
thread_left Kept thread = thread
thread_left Retired thread = ended thread
