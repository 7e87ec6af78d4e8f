-- What a volume is once it is written anew in format 3: the same numbers, tables and blocks (the layout is this project's own).
use Rattle.std.specs.Prelude.{◌≡◌, ℕ, List, drop}
use Rattle.geometry.specs.Area.{meta_bytes}
use Rattle.geometry.specs.declared.geometry.Geometry.{Geometry}
use Rattle.geometry.specs.declared.packing.Packing.TheVariants.{Pages}
use Rattle.image.specs.Image.{Image}
use Rattle.image_reading.specs.Held.{HoldsVolume, files_in}

-- the numbers of the same volume, with packs in pages
abbrev pub paged : Geometry → Geometry
paged geometry = record geometry { packing = Pages }

-- the image as a new volume has it, whose first pack has version 1
abbrev pub first : Image → Image
first image = record image { version = 1 }

-- The written bytes are an image file of format 3. It holds the image that the other bytes hold, but for the version, and it is lawful;
-- behind its meta area stand the same bytes, and each file is the same.
pub record IsUpgraded (geometry : Geometry) (image : Image) (bytes written : List ℕ) : Type 0 where
  pub held : HoldsVolume (paged geometry) (first image) written
  pub blocks : drop (meta_bytes (paged geometry)) written ≡ drop (meta_bytes geometry) bytes
  pub files : files_in (paged geometry) (first image) written ≡ files_in geometry image bytes
