-- A device on which an image stands whole (Linux filesystems/f2fs, on-disk layout).
use Rattle.std.specs.Prelude.{◌≡◌, ℕ, List}
use Rattle.device.specs.declared.parts.Parts.{Parts}
use Rattle.device.specs.Disk.{Leaves}
use Rattle.device.specs.Parts.{HasSize}
use Rattle.geometry.specs.declared.geometry.Geometry.{Geometry}
use Rattle.image.specs.Image.{Image}
use Rattle.image.specs.Reading.{read_nodes}
use Rattle.image.specs.Rules.{IsLawful}
use Rattle.pack_tables.specs.Holding.{HoldsTables}
use Rattle.image_codec.specs.Blocks.{bytes_at}
use Rattle.pack_tables.specs.Grammar.{HasSuper}

-- The parts have the size of the geometry. Whatever crash comes, the superblock spells the geometry, and the pack that counts
-- spells the image's tables. The nodes that the tables name in the main blocks are the image's, and it keeps all ten rules.
pub record IsMountable {M B : Type 0} (seen : M → List ℕ) (may_leave : M → List ℕ → Type 0) (address_of : B → ℕ) (content_of : B → List ℕ) (geometry : Geometry) (image : Image) (parts : Parts M B) : Type 0 where
  pub size : HasSize seen address_of content_of geometry parts
  pub front : Leaves may_leave parts.meta (HasSuper geometry)
  pub tables : Leaves may_leave parts.meta (HoldsTables geometry image)
  pub nodes : image.nodes ≡ read_nodes geometry.shape (bytes_at content_of parts.blocks.items) image.node_table
  pub lawful : IsLawful geometry image
