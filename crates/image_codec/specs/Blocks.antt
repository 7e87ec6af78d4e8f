-- The bytes of a device's blocks, by their addresses, and the blocks on which an image's nodes stand (Linux filesystems/f2fs,
-- node structure).
use Rattle.std.specs.Prelude.{◌≡◌, ◌≤◌, ℕ, ◌-◌, List, [], length, map, slice_index_or, true}
use Rattle.geometry.specs.declared.geometry.Geometry.{Geometry}
use Rattle.geometry.specs.Area.{block_count}
use Rattle.geometry.specs.Shape.{block_bytes}
use Rattle.image.specs.Node.{Spells}
use Rattle.image.specs.Image.{Image, entry_of, node_of}
use Rattle.image.specs.Walk.{is_taken}

-- those of the block at an address of a run that begins at address 1, and none past its end
abbrev pub bytes_at : {B : Type 0} → (B → List ℕ) → List B → ℕ → List ℕ
bytes_at content_of blocks address = slice_index_or (map content_of blocks) (address - 1) []

-- each main block is whole, and that of each node spells the image's node
pub record AreBlocks (geometry : Geometry) (image : Image) (bytes : ℕ → List ℕ) : Type 0 where
  pub whole : (address : ℕ) → 1 ≤ address → address ≤ block_count geometry → length (bytes address) ≡ block_bytes geometry.shape
  pub spelled : (number : ℕ) → is_taken image number ≡ true → Spells geometry.shape (bytes (entry_of image number).address) (node_of image number)
