-- The blocks of a segment that are at home.
use Rattle.std.specs.Prelude.{◌≡◌, ℕ, ◌+◌, List, [], length, map, slice_index_or, slice_set, Option, Some, None, Bool}
use Rattle.geometry.specs.Weights.{weigh}

-- the address of the first block, how many bytes each has, which of them are there, the bytes of these, and how often they have failed, all together
pub record Home : Type 0 where
  pub first : ℕ
  pub block_bytes : ℕ
  pub present : List Bool
  pub contents : List (List ℕ)
  pub failed : ℕ

-- each block that is there has the address of its place, and so many bytes
pub record AreAtHome {B : Type 0} (address_of : B → ℕ) (content_of : B → List ℕ) (first bytes : ℕ) (blocks : List (Option B)) : Type 0 where
  pub addresses : (o : ℕ) (block : B) → slice_index_or blocks o None ≡ Some block → address_of block ≡ first + o
  pub lengths : (o : ℕ) (block : B) → slice_index_or blocks o None ≡ Some block → length (content_of block) ≡ bytes

-- how often the block at a place has failed, where it is there
abbrev pub failed_at : {B : Type 0} → (B → ℕ) → Option B → ℕ
failed_at failed None = 0
failed_at failed (Some block) = failed block

-- how often the blocks that are there have failed, all together
abbrev pub failures_of : {B : Type 0} → (B → ℕ) → List (Option B) → ℕ
failures_of failed blocks = weigh (failed_at failed) blocks

-- the bytes of the block at a place, and none where it is not there
abbrev pub content_at : {B : Type 0} → (B → List ℕ) → Option B → List ℕ
content_at content_of None = []
content_at content_of (Some block) = content_of block

-- the bytes of the blocks that are there, each at its place
abbrev pub contents_of : {B : Type 0} → (B → List ℕ) → List (Option B) → List (List ℕ)
contents_of content_of blocks = map (content_at content_of) blocks

-- the device failed at the block of a place, which holds any bytes now, and no other was changed
abbrev pub IsSpoiledAt : Home → ℕ → Home → Type 0
IsSpoiledAt old offset new =
    (bytes : List ℕ) × (length bytes ≡ old.block_bytes)
    × (new ≡ record old { contents = slice_set old.contents offset bytes; failed = new.failed })
