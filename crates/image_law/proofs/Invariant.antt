-- What holds of the core machine after any events: the slot that counts has a lawful image, whose marked blocks are as
-- they were written, safe from writes until a later one counts.
use Rattle.std.proofs.Common.{◌≡◌, ℕ, ◌+◌, ◌<◌, ◌≤◌, Bool, false, IsTrue, List, None, get_or}
use Rattle.std.specs.Prelude.{IsSome, Contains}
use Rattle.geometry.specs.declared.shape.Shape.{Shape}
use Rattle.geometry.specs.declared.geometry.Geometry.{Geometry}
use Rattle.geometry.specs.Address.{segment_of, offset_of}
use Rattle.geometry.specs.File.{Block}
use Rattle.image.specs.Image.{is_marked}
use Rattle.image.specs.Rules.{IsLawful}
use Rattle.image.specs.Reading.{image_in}
use Rattle.image.specs.Slots.{Slot, version_of}
use Rattle.geometry.specs.declared.state.State.{State}
use Rattle.geometry.specs.declared.state.State.TheVariants.{Free, Open, Sealed, Prefree}
use Rattle.image_law.specs.Core.{Segment, Written, Phase, idle, body_written, body_synced, footer_written, footer_synced, mending, Core, current, other, owner_at}

-- an address that the image of a written body marks
pub Marks : Geometry → Written → ℕ → Type 0
Marks geometry w address = IsTrue (is_marked geometry (image_in geometry w.body w.blocks) address)

pub marks_are : (geometry : Geometry) (w : Written) (address : ℕ)
    → Marks geometry w address → IsTrue (is_marked geometry (image_in geometry w.body w.blocks) address)
unfolding Marks
marks_are geometry w address h = h

pub are_marks : (geometry : Geometry) (w : Written) (address : ℕ)
    → IsTrue (is_marked geometry (image_in geometry w.body w.blocks) address) → Marks geometry w address
unfolding Marks
are_marks geometry w address h = h

-- a place of a segment that can't be written while the completed version is c
abbrev pub IsSafeAs : State → ℕ → ℕ → ℕ → ℕ → Type 0
IsSafeAs Open c stamp next offset = offset < next
IsSafeAs Sealed c stamp next offset = Unit {0}
IsSafeAs Prefree c stamp next offset = c ≤ stamp
IsSafeAs Free c stamp next offset = ⊥

abbrev pub IsSafe : Shape → ℕ → (ℕ → Segment) → ℕ → Type 0
IsSafe shape c segments address =
    let s = segments (segment_of shape address) in IsSafeAs s.stage.state c s.stage.stamp s.fill.next (offset_of shape address)

-- a place of a segment that may hold a marked block
abbrev pub IsLiveAs : State → ℕ → ℕ → Type 0
IsLiveAs Open next offset = offset < next
IsLiveAs Sealed next offset = Unit {0}
IsLiveAs Prefree next offset = ⊥
IsLiveAs Free next offset = ⊥

abbrev pub IsLive : Shape → (ℕ → Segment) → ℕ → Type 0
IsLive shape segments address =
    let s = segments (segment_of shape address) in IsLiveAs s.stage.state s.fill.next (offset_of shape address)

-- a body of this version that stands in this slot
pub record IsStored (geometry : Geometry) (written : List Written) (slot : Slot) (version : ℕ) (w : Written) : Type 0 where
  pub was_written : Contains written w
  pub lawful : IsLawful geometry (image_in geometry w.body w.blocks)
  pub header : version_of w.body ≡ version
  pub body : slot.body ≡ w.body

-- the marked blocks are as they were
abbrev pub Same : Geometry → (ℕ → Block) → Written → Type 0
Same geometry blocks w = (address : ℕ) → Marks geometry w address → blocks address ≡ w.blocks address

abbrev pub Settled : Geometry → (ℕ → Bool) → Written → Type 0
Settled geometry loose w = (address : ℕ) → Marks geometry w address → loose address ≡ false

abbrev pub AllSafe : Geometry → ℕ → (ℕ → Segment) → Written → Type 0
AllSafe geometry c segments w = (address : ℕ) → Marks geometry w address → IsSafe geometry.shape c segments address

abbrev pub AllOwned : Geometry → (ℕ → Segment) → Written → Type 0
AllOwned geometry segments w = (address : ℕ) → Marks geometry w address → IsSome (owner_at geometry.shape segments address)

-- only places that may hold a marked block are named
abbrev pub NamesLive : Segment → Type 0
NamesLive s = (offset : ℕ) → IsSome (get_or s.fill.owners offset None) → IsLiveAs s.stage.state s.fill.next offset

abbrev pub AllLive : (ℕ → Segment) → Type 0
AllLive segments = (segment : ℕ) → NamesLive (segments segment)

-- the next pack in the slot that is written
pub record IsNext (geometry : Geometry) (m : Core) (w : Written) : Type 0 where
  pub stored : IsStored geometry m.written (m.slots (other (current m.version))) (m.version + 1) w
  pub same : Same geometry m.blocks w

-- what the slot that isn't current holds
abbrev pub Pending : Geometry → Core → Phase → Type 0
Pending geometry m idle = (m.slots (other (current m.version))).footer < m.version
Pending geometry m body_written =
    ((m.slots (other (current m.version))).footer < m.version)
    × ((w : Written) × IsNext geometry m w × AllOwned geometry m.segments w)
Pending geometry m body_synced =
    ((m.slots (other (current m.version))).footer < m.version)
    × ((w : Written) × IsNext geometry m w × AllOwned geometry m.segments w × Settled geometry m.loose w)
Pending geometry m footer_written =
    ((m.slots (other (current m.version))).footer ≡ m.version + 1)
    × ((w : Written) × IsNext geometry m w × AllOwned geometry m.segments w × Settled geometry m.loose w)
Pending geometry m footer_synced =
    ((m.slots (other (current m.version))).footer ≡ m.version + 1)
    × ((w : Written) × IsNext geometry m w × AllOwned geometry m.segments w × Settled geometry m.loose w)
Pending geometry m mending =
    ((m.slots (other (current m.version))).footer < m.version)
    × ((w : Written) × IsNext geometry m w × Settled geometry m.loose w)

pub record Invariant (geometry : Geometry) (m : Core) : Type 0 where
  pub now : Written
  pub stored : IsStored geometry m.written (m.slots (current m.version)) m.version now
  pub positive : 1 ≤ m.version
  pub footer : (m.slots (current m.version)).footer ≡ m.version
  pub same : Same geometry m.blocks now
  pub settled : Settled geometry m.loose now
  pub safe : AllSafe geometry m.version m.segments now
  pub pending : Pending geometry m m.phase
  pub live : AllLive m.segments
