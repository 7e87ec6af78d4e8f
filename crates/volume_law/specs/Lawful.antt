-- A device that holds a lawful image (Linux filesystems/f2fs, superblock, checkpoint area and main area).
use Rattle.std.specs.Prelude.{ℕ, List}
use Rattle.device.specs.Parts.{HasSize}
use Rattle.device.specs.declared.parts.Parts.{Parts}
use Rattle.geometry.specs.declared.geometry.Geometry.{Geometry}
use Rattle.image.specs.Image.{Image}
use Rattle.image.specs.Rules.{IsLawful}
use Rattle.image_codec.specs.Blocks.{bytes_at}
use Rattle.pack_tables.specs.OneImage.{HoldVolume}

-- The parts have the size of a volume, the image that they hold is lawful, and its nodes stand in the blocks.
pub record HoldsLawfulVolume {M B : Type 0} (seen : M → List ℕ) (address_of : B → ℕ) (content_of : B → List ℕ) (geometry : Geometry) (image : Image) (parts : Parts M B) : Type 0 where
  pub size : HasSize seen address_of content_of geometry parts
  pub held : HoldVolume geometry image (seen parts.meta) (bytes_at content_of parts.blocks.items)
  pub lawful : IsLawful geometry image
