-- What the bytes of a device hold (Linux filesystems/f2fs, superblock, checkpoint area and main area).
use Rattle.std.specs.Prelude.{◌≡◌, ℕ, List}
use Rattle.geometry.specs.declared.geometry.Geometry.{Geometry}
use Rattle.geometry.specs.File.{Block}
use Rattle.image.specs.Files.{files}
use Rattle.image.specs.Image.{Image}
use Rattle.image.specs.Reading.{read_nodes}
use Rattle.pack_tables.specs.Grammar.{HasSuper}
use Rattle.pack_tables.specs.Holding.{HoldsTables}

-- A meta area and main blocks hold an image of a volume of this geometry: the superblock tells the geometry, the pack that
-- counts spells the image's tables, and the blocks that these name spell its nodes.
pub record HoldVolume (geometry : Geometry) (image : Image) (area : List ℕ) (bytes : ℕ → Block) : Type 0 where
  pub front : HasSuper geometry area
  pub tables : HoldsTables geometry image area
  pub nodes : image.nodes ≡ read_nodes geometry.shape bytes image.node_table

-- two images that an area and blocks hold are one, of one geometry, and have the same files
abbrev pub OneImageLaw : Type 0
OneImageLaw =
    (geometry other : Geometry) (image image' : Image) (area : List ℕ) (bytes : ℕ → Block)
    → HoldVolume geometry image area bytes → HoldVolume other image' area bytes
    → (geometry ≡ other) × (image ≡ image') × (files geometry image bytes ≡ files other image' bytes)
