-- What is found of a device's parts, at once or after a crash.
use Rattle.std.specs.Prelude.{◌≡◌, ℕ, IsTrue, List}
use Rattle.device.specs.Parts.{HasSize}
use Rattle.device.specs.declared.parts.Parts.{Parts}
use Rattle.geometry.specs.declared.geometry.Geometry.{Geometry}
use Rattle.image.specs.Image.{Image, is_marked}
use Rattle.image_codec.specs.Blocks.{bytes_at}
use Rattle.pack_tables.specs.Holding.{HoldsTables}

-- A meta area with bytes that a crash may have left, and blocks of which each that its tables mark as valid holds what it held.
-- Of the others nothing is asked: whoever opens an image file need not read them.
pub record IsFound {M B : Type 0} (seen : M → List ℕ) (may_leave : M → List ℕ → Type 0) (address_of : B → ℕ) (content_of : B → List ℕ) (geometry : Geometry) (parts found : Parts M B) : Type 0 where
  pub area : may_leave parts.meta (seen found.meta)
  pub blocks : (tables : Image) → HoldsTables geometry tables (seen found.meta) → (address : ℕ) → IsTrue (is_marked geometry tables address)
      → bytes_at content_of found.blocks.items address ≡ bytes_at content_of parts.blocks.items address
  pub size : HasSize seen address_of content_of geometry found
