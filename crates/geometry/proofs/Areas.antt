-- A meta area begins with the superblock's 64 bytes, however its packs lie.
use Rattle.std.proofs.Common.{ℕ, ◌≤◌, arith}
use Rattle.geometry.specs.declared.packing.Packing.{Packing}
use Rattle.geometry.specs.declared.packing.Packing.TheVariants.{Slots, Pages}
use Rattle.geometry.specs.Area.{area_of}

pub holds_front : (packing : Packing) (bytes : ℕ) → 64 ≤ area_of packing bytes
holds_front Slots bytes = omega arith
holds_front Pages bytes = omega arith
