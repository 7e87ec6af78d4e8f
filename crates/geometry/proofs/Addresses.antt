-- An address is read off its segment and place, and these off the address.
use Rattle.std.proofs.Common.{◌≡◌, ℕ, ◌+◌, ◌*◌, ◌<◌, ◌≤◌, arith}
use Rattle.geometry.specs.declared.shape.Shape.{Shape}
use Rattle.geometry.specs.declared.shape.Shape.TheVariants.{Tiny, Kernel}
use Rattle.geometry.specs.Shape.{segment_blocks}
use Rattle.geometry.specs.Address.{address_of, segment_of, offset_of}

pub address_of-parts : (shape : Shape) (address : ℕ) → 0 < address → address_of shape (segment_of shape address) (offset_of shape address) ≡ address
address_of-parts Tiny address some = omega arith
address_of-parts Kernel address some = omega arith

pub offset_of-lt : (shape : Shape) (address : ℕ) → offset_of shape address < segment_blocks shape
offset_of-lt Tiny address = omega arith
offset_of-lt Kernel address = omega arith

pub segment_of-address_of : (shape : Shape) (segment offset : ℕ) → offset < segment_blocks shape → segment_of shape (address_of shape segment offset) ≡ segment
segment_of-address_of Tiny segment offset within = omega arith
segment_of-address_of Kernel segment offset within = omega arith

pub offset_of-address_of : (shape : Shape) (segment offset : ℕ) → offset < segment_blocks shape → offset_of shape (address_of shape segment offset) ≡ offset
offset_of-address_of Tiny segment offset within = omega arith
offset_of-address_of Kernel segment offset within = omega arith

pub segment_blocks-positive : (shape : Shape) → 0 < segment_blocks shape
segment_blocks-positive Tiny = omega arith
segment_blocks-positive Kernel = omega arith

pub segment_blocks-most : (shape : Shape) → segment_blocks shape ≤ 512
segment_blocks-most Tiny = omega arith
segment_blocks-most Kernel = omega arith

-- the address of a segment's last block is one before the next segment's first
pub address_of-next : (shape : Shape) (segment : ℕ) → address_of shape segment (segment_blocks shape) ≡ address_of shape (segment + 1) 0
address_of-next Tiny segment = omega arith
address_of-next Kernel segment = omega arith

-- addresses are within those of the segments
pub address_of-most : (shape : Shape) (segments segment offset : ℕ) → segment < segments → offset < segment_blocks shape → address_of shape segment offset ≤ segments * segment_blocks shape
address_of-most Tiny segments segment offset low within = omega arith
address_of-most Kernel segments segment offset low within = omega arith
