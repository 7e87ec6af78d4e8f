-- What an image file holds once a volume was closed.
use Rattle.std.specs.Prelude.{◌≡◌, ℕ, IsTrue, List, length}
use Rattle.device.specs.declared.parts.Parts.{Parts}
use Rattle.geometry.specs.declared.geometry.Geometry.{Geometry}
use Rattle.image.specs.Image.{Image, is_marked}
use Rattle.image_codec.specs.Blocks.{bytes_at}
use Rattle.image_reading.specs.Held.{area_in}
use Rattle.pack_tables.specs.File.{block_in, file_bytes}
use Rattle.pack_tables.specs.Holding.{HoldsTables}

-- The bytes of an image file in which these parts are kept, at once or after a crash: a meta area that a crash may have left, and
-- blocks of which each that its tables mark as valid holds what it held. No contract tells what a file gives: this is a premise.
pub record IsLeftIn {M B : Type 0} (may_leave : M → List ℕ → Type 0) (content_of : B → List ℕ) (geometry : Geometry) (parts : Parts M B) (bytes : List ℕ) : Type 0 where
  pub size : length bytes ≡ file_bytes geometry
  pub area : may_leave parts.meta (area_in geometry bytes)
  pub blocks : (tables : Image) → HoldsTables geometry tables (area_in geometry bytes) → (address : ℕ) → IsTrue (is_marked geometry tables address)
      → block_in geometry bytes address ≡ bytes_at content_of parts.blocks.items address
