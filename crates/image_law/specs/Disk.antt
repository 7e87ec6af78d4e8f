-- The two pack slots after a crash, whatever happened before it.
use Rattle.std.specs.Prelude.{◌≡◌, ◌⊎◌, ℕ, Some, List, Contains}
use Rattle.geometry.specs.declared.geometry.Geometry.{Geometry}
use Rattle.image.specs.Slots.{Slot, version_of, picked, IsSettled, IsBetween}
use Rattle.image_law.specs.Core.{Core, Event, Left, Written, MayLeave, Run, IsFormatted}

-- what is picked between two packs is one of them
abbrev pub PickLaw : Type 0
PickLaw = (slots : ℕ → Slot) (old new : List ℕ) → IsBetween slots old new → (picked slots ≡ Some old) ⊎ (picked slots ≡ Some new)

-- the slots are settled with the pack of the completed version, or they are between it and one more that was written
pub record HoldsPacks (machine : Core) (slots : ℕ → Slot) : Type 0 where
  pub old : Written
  pub was_written : Contains machine.written old
  pub completed : version_of old.body ≡ machine.version
  pub packs : IsSettled slots old.body ⊎ ((new : Written) × Contains machine.written new × IsBetween slots old.body new.body)

-- after any events a crash leaves such slots
abbrev pub SlotsLaw : Type 0
SlotsLaw =
    (geometry : Geometry) (start machine : Core) (events : List Event) (left : Left)
    → IsFormatted geometry start → Run geometry start events machine → MayLeave machine left → HoldsPacks machine left.slots
