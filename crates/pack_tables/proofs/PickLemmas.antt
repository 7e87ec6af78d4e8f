-- Which slot counts is told by the versions and footers at the slots' ends alone: so what was read of those picks the
-- body that counts in the file.
use Rattle.std.proofs.Common.{◌≡◌, sym, ap, ℕ, ◌≤◌, Some, None, List, length, arith}
use Rattle.geometry.specs.declared.geometry.Geometry.{Geometry}
use Rattle.geometry.specs.Area.{meta_bytes}
use Rattle.image.specs.Slots.{pick, picked_slot, body_in}
use Rattle.image.proofs.Picking.{is_picked}
use Rattle.packs.specs.declared.choice.Ends.{Ends}
use Rattle.packs.specs.Device.{HoldEnds}
use Rattle.packs.specs.Area.{reading_of}
use Rattle.packs.proofs.Picking.{by_ends}
use Rattle.pack_tables.specs.File.{file_bytes, slot_in, picked_body}

module _ (geometry : Geometry) (file : List ℕ) where
  -- the choice by what was read of the slots' ends
  pub ends_chosen : (first second : Ends) → HoldEnds (reading_of geometry) 0 file first → HoldEnds (reading_of geometry) 1 file second
      → pick first.header first.footer second.header second.footer ≡ picked_slot (slot_in geometry file)
  ends_chosen first second zeroth one = by_ends (reading_of geometry) file first second zeroth one

  -- the body of the slot that was chosen
  pub slot_picked : (slot : ℕ) → Some slot ≡ picked_slot (slot_in geometry file) → picked_body geometry file ≡ Some ((reading_of geometry).body slot file)
  slot_picked slot is = ap (body_in (slot_in geometry file)) (sym is)

  pub slot_within : (slot : ℕ) → Some slot ≡ picked_slot (slot_in geometry file) → slot ≤ 1
  slot_within slot is = (is_picked (slot_in geometry file) slot (sym is)).within

  pub none_picked : None ≡ picked_slot (slot_in geometry file) → picked_body geometry file ≡ None
  none_picked is = ap (body_in (slot_in geometry file)) (sym is)

-- a file has its meta area in front
pub file_long : (geometry : Geometry) (file : List ℕ) → length file ≡ file_bytes geometry → meta_bytes geometry ≤ length file
file_long geometry file is = omega (arith, is)
