-- What is told of an image file whose last checkpoint is lawful.
use Rattle.std.specs.Prelude.{◌≡◌, ℕ, List}
use Rattle.geometry.specs.declared.geometry.Geometry.{Geometry}
use Rattle.geometry.specs.Shape.{block_bytes, segment_blocks}
use Rattle.image.specs.Image.{Image, node_of}
use Rattle.image.specs.Free.{free_count}
use Rattle.image.specs.Rules.{IsLawful}
use Rattle.pack_tables.specs.File.{HoldsImage}
use Rattle.pack_tables.specs.Grammar.{HasSuper}
use Rattle.image_c.specs.declared.facts.Facts.{Facts}

-- the file has this superblock and this image, which is lawful
pub record HoldsLawful (file : List ℕ) (geometry : Geometry) (image : Image) : Type 0 where
  pub front : HasSuper geometry file
  pub held : HoldsImage geometry file image
  pub lawful : IsLawful geometry image

-- the facts are those of the image that the file holds
pub record IsTold (file : List ℕ) (facts : Facts) : Type 0 where
  pub geometry : Geometry
  pub image : Image
  pub holds : HoldsLawful file geometry image
  pub version : facts.version ≡ image.version
  pub valid : facts.valid_blocks ≡ image.total
  pub free : facts.free_segments ≡ free_count geometry image
  pub bytes : facts.block_bytes ≡ block_bytes geometry.shape
  pub blocks : facts.segment_blocks ≡ segment_blocks geometry.shape
  pub segments : facts.segments ≡ geometry.segments
  pub fault : facts.fault ≡ 0

-- the length of a file in blocks; 0 where the image has none of this number
abbrev pub length_in : Image → ℕ → ℕ
length_in image number = (node_of image number).length

-- it is that of the image that the file holds
pub record IsLengthIn (file : List ℕ) (number blocks : ℕ) : Type 0 where
  pub geometry : Geometry
  pub image : Image
  pub holds : HoldsLawful file geometry image
  pub length : blocks ≡ length_in image number
