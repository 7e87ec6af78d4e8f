-- What the parts of a device are: a meta area, and blocks in address order. What a meta area shows, and what a block's
-- address and content are, are arguments, so that the definitions serve every device.
use Rattle.std.specs.Prelude.{◌≡◌, ◌<◌, ◌+◌, ◌++◌, ℕ, List, length, All, slice_index_or}
use Rattle.std.specs.List.{flat_map}
use Rattle.geometry.specs.declared.geometry.Geometry.{Geometry}
use Rattle.geometry.specs.Shape.{block_bytes}
use Rattle.geometry.specs.Area.{block_count, meta_bytes}
use Rattle.device.specs.declared.parts.Parts.{Parts}

-- a run of blocks: the one at place k has the address first + k, and each holds so many bytes
pub record IsBlockRun {B : Type 0} (address_of : B → ℕ) (content_of : B → List ℕ) (bytes first : ℕ) (blocks : List B) : Type 0 where
  pub addresses : (k : ℕ) (other : B) → k < length blocks → address_of (slice_index_or blocks k other) ≡ first + k
  pub lengths : All (λ block. length (content_of block) ≡ bytes) blocks

-- the parts of a device that has the size of a geometry, whose addresses are 1 and on
pub record HasSize {M B : Type 0} (seen : M → List ℕ) (address_of : B → ℕ) (content_of : B → List ℕ) (geometry : Geometry) (parts : Parts M B) : Type 0 where
  pub area : length (seen parts.meta) ≡ meta_bytes geometry
  pub count : length parts.blocks.items ≡ block_count geometry
  pub run : IsBlockRun address_of content_of (block_bytes geometry.shape) 1 parts.blocks.items

-- an image file: the bytes of the meta area, and behind them those of each block, in the order of the parts
abbrev pub image_file : {M B : Type 0} → (M → List ℕ) → (B → List ℕ) → Parts M B → List ℕ
image_file seen content_of parts = seen parts.meta ++ flat_map content_of parts.blocks.items
