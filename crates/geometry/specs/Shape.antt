-- How large a volume's blocks, segments and nodes are (Linux filesystems/f2fs; the tiny shape is this project's own).
use Rattle.std.specs.Prelude.{ℕ}
use Rattle.geometry.specs.declared.shape.Shape.{Shape}
use Rattle.geometry.specs.declared.shape.Shape.TheVariants.{Tiny, Kernel}

-- the bytes of a block
abbrev pub block_bytes : Shape → ℕ
block_bytes Tiny = 64
block_bytes Kernel = 4096

-- the blocks of a segment
abbrev pub segment_blocks : Shape → ℕ
segment_blocks Tiny = 8
segment_blocks Kernel = 512

-- the bytes of an inode in front of its addresses
abbrev pub inode_head : Shape → ℕ
inode_head Tiny = 8
inode_head Kernel = 360
