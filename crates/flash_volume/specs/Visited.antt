-- A volume was mounted and visited: the visit was given the passes of the files of the lawful image that the parts of the device held.
-- What the parts show, and what is known of a visit and of what was handed back, are arguments.
use Rattle.std.specs.Prelude.{◌≡◌, ℕ, List, map}
use Rattle.device.specs.declared.parts.Parts.{Parts}
use Rattle.file_cells.specs.Pass.{Pass}
use Rattle.geometry.specs.File.{Block}
use Rattle.geometry.specs.declared.geometry.Geometry.{Geometry}
use Rattle.image.specs.Files.{files}
use Rattle.image.specs.Image.{Image}
use Rattle.image_codec.specs.Blocks.{bytes_at}
use Rattle.volume.specs.declared.volume.Base.{Base}
use Rattle.volume_law.specs.Lawful.{HoldsLawfulVolume}

-- these are passes of the files of this image over these blocks, in the order of their numbers
abbrev pub ArePassesOf : Geometry → Image → (ℕ → Block) → List Pass → Type 0
ArePassesOf geometry image blocks passes = map (λ pass. (pass.number, pass.file)) passes ≡ files geometry image blocks

-- the numbers by which an image is told from others
abbrev pub base_of : Image → Base
base_of image = record { version = image.version; total = image.total }

-- a visit of the volume of this image over these blocks handed this back
pub record VisitedFrom {L : Type 0} (did : Geometry → Base → List Pass → L → Type 0) (geometry : Geometry) (image : Image) (blocks : ℕ → Block) (left : L) : Type 0 where
  pub before : List Pass
  pub began : ArePassesOf geometry image blocks before
  pub visited : did geometry (base_of image) before left

-- the same of the lawful image that these parts held
pub record VisitedOn {M B L : Type 0} (seen : M → List ℕ) (address_of : B → ℕ) (content_of : B → List ℕ) (did : Geometry → Base → List Pass → L → Type 0) (parts : Parts M B) (left : L) : Type 0 where
  pub geometry : Geometry
  pub image : Image
  pub held : HoldsLawfulVolume seen address_of content_of geometry image parts
  pub from : VisitedFrom did geometry image (bytes_at content_of parts.blocks.items) left
