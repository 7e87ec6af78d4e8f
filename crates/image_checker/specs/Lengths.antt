-- What a place of an index tree reaches, by level: 0 for a direct node, and one more than its children's for an indirect one.
use Rattle.std.specs.Prelude.{◌≢◌, ◌<◌, ℕ, zero, suc, ◌+◌, ◌-◌, ◌*◌, ◌/◌, ◌%◌, slice_index}
use Rattle.geometry.specs.declared.shape.Shape.{Shape}
use Rattle.geometry.specs.Path.{node_entries, inode_entries}
use Rattle.image.specs.Image.{Image, node_of}
use Rattle.image.specs.Walk.{child}

-- how many blocks, where a node has so many entries
abbrev pub span : ℕ → ℕ → ℕ
span entries zero = entries
span entries (suc level) = entries * span entries level

-- the address of the k-th of them, 0 for a hole
abbrev pub address_below : Image → ℕ → ℕ → ℕ → ℕ → ℕ
address_below image entries zero nid k = slice_index (node_of image nid).addresses k
address_below image entries (suc level) nid k =
    address_below image entries level (child image nid (k / span entries level)) (k % span entries level)

-- none at or past a limit
abbrev pub EndsBelow : Image → ℕ → ℕ → ℕ → ℕ → Type 0
EndsBelow image entries level nid limit = (k : ℕ) → address_below image entries level nid k ≢ 0 → k < limit

-- the inode's own addresses and its five places end below a length
pub record FileEndsBelow (shape : Shape) (image : Image) (inode length : ℕ) : Type 0 where
  pub own : (k : ℕ) → k < inode_entries shape → slice_index (node_of image inode).addresses k ≢ 0 → k < length
  pub first : EndsBelow image (node_entries shape) 0 (child image inode 0) (length - inode_entries shape)
  pub second : EndsBelow image (node_entries shape) 0 (child image inode 1) (length - (inode_entries shape + node_entries shape))
  pub third : EndsBelow image (node_entries shape) 1 (child image inode 2) (length - (inode_entries shape + 2 * node_entries shape))
  pub fourth : EndsBelow image (node_entries shape) 1 (child image inode 3)
      (length - (inode_entries shape + 2 * node_entries shape + node_entries shape * node_entries shape))
  pub fifth : EndsBelow image (node_entries shape) 2 (child image inode 4)
      (length - (inode_entries shape + 2 * node_entries shape + 2 * (node_entries shape * node_entries shape)))
