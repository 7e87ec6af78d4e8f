-- Two slots that hold a checkpoint pack each, which of the packs counts, and what a write may leave of them (Linux filesystems/f2fs, two checkpoint packs; Rosenblum and Ousterhout 1991; Lee and others, FAST 2015; how versions choose slots is this project's own).
use Rattle.std.specs.Prelude.{◌≡◌, ◌⊎◌, ℕ, zero, suc, ◌+◌, ◌-◌, ◌%◌, ◌<◌, ◌≤◌, Bool, ◌&&◌, ◌==◌, nat_lt, max, if◌then◌else◌, List, Option, Some, None}
use Rattle.byteorder.specs.Endian.{little_number}

-- A slot: the body of a pack, and the number in its footer.
pub record Slot : Type 0 where
  pub body : List ℕ
  pub footer : ℕ

-- the version that a body begins with
unfoldable pub version_of : List ℕ → ℕ
version_of body = little_number 4 body

-- the slot of a version
abbrev pub slot_of : ℕ → ℕ
slot_of version = version % 2

-- header and footer hold one version, at least 1, of this slot
abbrev pub is_sound : ℕ → ℕ → ℕ → Bool
is_sound slot header footer = (header == footer) && (nat_lt 0 header && (slot_of header == slot))

-- the version of a sound pack, 0 of one that is not
abbrev pub sound_version : ℕ → ℕ → ℕ → ℕ
sound_version slot header footer = if is_sound slot header footer then header else 0

-- the slot of a version from 1 on
abbrev pub slot_from : ℕ → Option ℕ
slot_from zero = None
slot_from (suc version) = Some (slot_of (suc version))

-- the slot of the highest sound version, by the header and footer of slot 0 and of slot 1
abbrev pub pick : ℕ → ℕ → ℕ → ℕ → Option ℕ
pick header footer header' footer' = slot_from (max (sound_version 0 header footer) (sound_version 1 header' footer'))

-- that slot of two slots
abbrev pub picked_slot : (ℕ → Slot) → Option ℕ
picked_slot slots = pick (version_of (slots 0).body) (slots 0).footer (version_of (slots 1).body) (slots 1).footer

-- the body that stands in a slot
abbrev pub body_in : (ℕ → Slot) → Option ℕ → Option (List ℕ)
body_in slots None = None
body_in slots (Some slot) = Some (slots slot).body

-- the body of the pack that counts
abbrev pub picked : (ℕ → Slot) → Option (List ℕ)
picked slots = body_in slots (picked_slot slots)

-- a slot holds one version in header and footer, at least 1, of this slot
pub record IsSound (slots : ℕ → Slot) (slot : ℕ) : Type 0 where
  pub same : version_of (slots slot).body ≡ (slots slot).footer
  pub positive : 0 < version_of (slots slot).body
  pub parity : slot_of (version_of (slots slot).body) ≡ slot

-- the slot is sound, and of a higher version than the other if that is sound too
pub record IsPicked (slots : ℕ → Slot) (slot : ℕ) : Type 0 where
  pub within : slot ≤ 1
  pub sound : IsSound slots slot
  pub highest : IsSound slots (1 - slot) → version_of (slots (1 - slot)).body < version_of (slots slot).body

-- old stands in its slot, whole and sound, and the other slot's footer is below its version
pub record IsSettled (slots : ℕ → Slot) (old : List ℕ) : Type 0 where
  pub positive : 0 < version_of old
  pub body : (slots (slot_of (version_of old))).body ≡ old
  pub footer : (slots (slot_of (version_of old))).footer ≡ version_of old
  pub below : (slots (1 - slot_of (version_of old))).footer < version_of old

-- old stands in its slot; the other slot has a footer below old's version, or new's body with any footer
pub record IsBetween (slots : ℕ → Slot) (old new : List ℕ) : Type 0 where
  pub positive : 0 < version_of old
  pub next : version_of new ≡ version_of old + 1
  pub body : (slots (slot_of (version_of old))).body ≡ old
  pub footer : (slots (slot_of (version_of old))).footer ≡ version_of old
  pub other : ((slots (1 - slot_of (version_of old))).footer < version_of old) ⊎ ((slots (1 - slot_of (version_of old))).body ≡ new)
