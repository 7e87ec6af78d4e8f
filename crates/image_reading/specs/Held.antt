-- What the bytes of an image file hold: a meta area, and behind it the main blocks in address order (Linux filesystems/f2fs, on-disk layout).
use Rattle.std.specs.Prelude.{◌≡◌, ℕ, List, length, take}
use Rattle.geometry.specs.declared.geometry.Geometry.{Geometry}
use Rattle.geometry.specs.Area.{meta_bytes}
use Rattle.geometry.specs.File.{File}
use Rattle.image.specs.Files.{file_of, files}
use Rattle.image.specs.Image.{Image}
use Rattle.image.specs.Rules.{IsLawful}
use Rattle.pack_tables.specs.File.{block_in, file_bytes}
use Rattle.pack_tables.specs.OneImage.{HoldVolume}

-- the meta area in front
abbrev pub area_in : Geometry → List ℕ → List ℕ
area_in geometry bytes = take (meta_bytes geometry) bytes

-- the bytes are those of a volume of this geometry, and hold this image, which is lawful
pub record HoldsVolume (geometry : Geometry) (image : Image) (bytes : List ℕ) : Type 0 where
  pub size : length bytes ≡ file_bytes geometry
  pub held : HoldVolume geometry image (area_in geometry bytes) (block_in geometry bytes)
  pub lawful : IsLawful geometry image

-- the file of a number, and all files by their numbers
abbrev pub file_in : Geometry → Image → List ℕ → ℕ → File
file_in geometry image bytes number = file_of geometry.shape image (block_in geometry bytes) number

abbrev pub files_in : Geometry → Image → List ℕ → List (ℕ × File)
files_in geometry image bytes = files geometry image (block_in geometry bytes)
