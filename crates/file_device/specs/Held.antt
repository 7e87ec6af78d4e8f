-- What the blocks of an image file hold.
use Rattle.std.specs.Prelude.{◌≡◌, ℕ, ◌+◌, ◌*◌, ◌-◌, ◌≤◌, List, Bool, true, false, drop, length, replicate, take}
use Rattle.std.specs.Arc.{arc_value}
use Rattle.geometry.specs.declared.geometry.Geometry.{Geometry}
use Rattle.geometry.specs.Shape.{block_bytes}
use Rattle.file_device.specs.declared.held.Held.{Held}
use Rattle.file_device.specs.declared.held.Held.TheVariants.{From, Zeros}
use Rattle.file_device.specs.declared.kept.SharedBytes.{SharedBytes}
use Rattle.file_device.specs.Place.{block_place}

-- the part of bytes that is a block's: of blocks of so many bytes each, which stand there from that of an address on
abbrev pub part_of : ℕ → ℕ → ℕ → List ℕ → List ℕ
part_of size first address bytes = take size (drop ((address - first) * size) bytes)

-- what the block of an address holds: a part of bytes that are kept, or zeros
abbrev pub held_at : ℕ → ℕ → List ℕ → Held → List ℕ
held_at size address bytes (From first) = part_of size first address bytes
held_at size address bytes Zeros = replicate size 0

-- what of the bytes that are kept is a block's
abbrev pub lent_at : ℕ → ℕ → List ℕ → Held → List ℕ
lent_at size address bytes (From first) = part_of size first address bytes
lent_at size address bytes Zeros = bytes

-- whether bytes are kept
abbrev pub is_read : Held → Bool
is_read (From first) = true
is_read Zeros = false

-- the numbers of the device, and the bytes of each of its blocks
abbrev pub geometry_of : {S : Type 0} → SharedBytes S → Geometry
geometry_of kept = (arc_value kept.site).geometry

abbrev pub size_of : {S : Type 0} → SharedBytes S → ℕ
size_of kept = block_bytes (geometry_of kept).shape

-- where in the file the block of an address begins
abbrev pub place_in : {S : Type 0} → SharedBytes S → ℕ → ℕ
place_in kept address = block_place (geometry_of kept) address

abbrev pub content_in : {S : Type 0} → SharedBytes S → ℕ → List ℕ
content_in kept address = held_at (size_of kept) address kept.bytes.items kept.held

abbrev pub lent_in : {S : Type 0} → SharedBytes S → ℕ → List ℕ
lent_in kept address = lent_at (size_of kept) address kept.bytes.items kept.held

-- the bytes are those of the block of an address alone
abbrev pub IsOwn : {S : Type 0} → SharedBytes S → ℕ → Type 0
IsOwn kept address = (kept.held ≡ From address) × (length kept.bytes.items ≡ size_of kept)
