-- What the pack that counts in a meta area spells (Linux filesystems/f2fs, checkpoint area).
use Rattle.std.specs.Prelude.{◌≡◌, ℕ, List, Some}
use Rattle.geometry.specs.declared.geometry.Geometry.{Geometry}
use Rattle.image.specs.Image.{Image}
use Rattle.packs.specs.Pack.{picked}
use Rattle.packs.specs.Area.{reading_of}
use Rattle.pack_tables.specs.Grammar.{SpellsTables}

-- the pack that counts in an area spells the tables of an image
pub record HoldsTables (geometry : Geometry) (image : Image) (area : List ℕ) : Type 0 where
  pub body : List ℕ
  pub picked : picked (reading_of geometry) area ≡ Some body
  pub spelled : SpellsTables geometry body image
