-- The parts of a pack on their way into the other slot.
use Rattle.std.specs.Prelude.{◌≡◌, ◌≢◌, ◌⊎◌, ℕ, suc, ◌+◌, ◌-◌, ◌<◌, Bool, true, List, length, Some}
use Rattle.device.specs.Disk.{part, Leaves, LeavesOnly}
use Rattle.geometry.specs.declared.geometry.Geometry.{Geometry}
use Rattle.image.specs.Slots.{slot_of, version_of}
use Rattle.packs.specs.Area.{slots_reading}
use Rattle.packs.specs.Device.{IsSameArea, KeepsMapped}
use Rattle.packs.specs.declared.packs.Packs.{Packs}
use Rattle.packs.specs.Parts.{place, side, piece, are_parts, spelled_map, map_bytes}

-- part k of a body
abbrev pub body_piece : Geometry → ℕ → List ℕ → List ℕ
body_piece geometry k body = part (place geometry k) (place geometry (suc k) - place geometry k) body

-- Where the parts of a new pack are to lie. A part that changes its side relative to its own slot stays where the old pack's
-- part lies, so it has to be equal; every other one is written to the slot where the old pack's part does not lie.
pub record IsPlan (geometry : Geometry) (slot : ℕ) (old sides : List Bool) (body area : List ℕ) : Type 0 where
  pub many : length sides ≡ 64
  pub named : are_parts geometry 1 sides ≡ true
  pub equal : (k : ℕ) → k < 66 → side sides k ≢ side old k → piece geometry slot old k area ≡ body_piece geometry k body

-- both footers, the length and the front are the same
pub record SameEnds (geometry : Geometry) (old new : List ℕ) : Type 0 where
  pub area : IsSameArea old new
  pub footer : (slot : ℕ) → slot < 2 → (slots_reading geometry).footer slot new ≡ (slots_reading geometry).footer slot old

-- at every moment of a call the picked pack stays, and the map that the packs know
abbrev pub KeepsPicked : {D : Type 0} (moment : D → ℕ) (left_since : D → ℕ → List ℕ → Type 0) (may_leave : D → List ℕ → Type 0) → Packs D → D → Type 0
KeepsPicked moment left_since may_leave packs meta = (start old : List ℕ) →
    let settled = KeepsMapped packs.geometry (slot_of packs.version) packs.known.map start old in
    Leaves may_leave packs.meta settled → slot_of packs.version ≡ slot_of (version_of old)
    → LeavesOnly moment left_since packs.meta meta settled

-- the map, the first n parts and each part that stays are there for the pack in the other slot
pub record IsPut (geometry : Geometry) (slot : ℕ) (old sides : List Bool) (body : List ℕ) (n : ℕ) (start area : List ℕ) : Type 0 where
  pub ends : SameEnds geometry start area
  pub map : map_bytes (1 - slot) area ≡ spelled_map sides
  pub there : (k : ℕ) → k < 66 → (k < n) ⊎ (side sides k ≢ side old k) → piece geometry (1 - slot) sides k area ≡ body_piece geometry k body
