-- What a volume is mounted from.
use Rattle.std.specs.Prelude.{◌≡◌, ℕ, List}
use Rattle.atomic_table.specs.Seated.{TableId}
use Rattle.rights_books.specs.ClaimRules.{Ruled}
use Rattle.rights_books.specs.declared.claim.Layout.{Layout}
use Rattle.device.specs.Disk.{Leaves}
use Rattle.device.specs.Parts.{HasSize}
use Rattle.device.specs.declared.parts.Parts.{Parts}
use Rattle.mount_reading.specs.declared.open.OpenedDevice.{OpenedDevice}
use Rattle.geometry.specs.declared.geometry.Geometry.{Geometry}
use Rattle.image.specs.Image.{Image}
use Rattle.image.specs.Rules.{IsLawful}
use Rattle.image.specs.View.{image_view}
use Rattle.checkpoint.specs.Holding.{AreWhole}
use Rattle.mount.specs.declared.made.MountTables.{MountTables}
use Rattle.mount.specs.Made.{AreTables}
use Rattle.image_codec.specs.Blocks.{AreBlocks, bytes_at}
use Rattle.pack_tables.specs.Grammar.{HasSuper}
use Rattle.pack_tables.specs.Holding.{HoldsTables}

-- the numbers, the books, the rows and the words by which names are picked, and the device with its image
pub record MountView (M B : Type 0) : Type 0 where
  pub geometry : Geometry
  pub books : Ruled Layout
  pub rows : TableId
  pub words : TableId
  pub image : Image
  pub parts : Parts M B

-- A device whose superblock spells its numbers, whose packs are whole and spell its image whatever crash comes, and whose blocks spell the nodes of its image, which is
-- lawful and has the version of the packs; and tables for the image.
pub record IsMounted {M B L : Type 0} (seen : M → List ℕ) (may_leave : M → List ℕ → Type 0) (address_of : B → ℕ) (content_of : B → List ℕ) (device : OpenedDevice M B) (tables : MountTables B L) : Type 0 where
  pub lawful : IsLawful device.packs.geometry (image_view device.image)
  pub size : HasSize seen address_of content_of device.packs.geometry (record { meta = device.packs.area.meta; blocks = device.blocks })
  pub blocks : AreBlocks device.packs.geometry (image_view device.image) (bytes_at content_of device.blocks.items)
  pub front : HasSuper device.packs.geometry (seen device.packs.area.meta)
  pub whole : AreWhole seen may_leave device.packs
  pub held : Leaves may_leave device.packs.area.meta (HoldsTables device.packs.geometry (image_view device.image))
  pub version : device.image.version ≡ device.packs.area.version
  pub made : AreTables device.packs.geometry (image_view device.image) tables
