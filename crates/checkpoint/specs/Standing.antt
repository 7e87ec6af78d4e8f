-- What a meta area holds at each moment of a volume's life (Linux filesystems/f2fs, superblock and checkpoint area).
use Rattle.std.specs.Prelude.{◌≡◌, ℕ, List}
use Rattle.geometry.specs.declared.geometry.Geometry.{Geometry}
use Rattle.image.specs.Image.{Image}
use Rattle.image.specs.Rules.{IsLawful}
use Rattle.pack_tables.specs.Grammar.{HasSuper}
use Rattle.pack_tables.specs.Holding.{HoldsTables}

-- a pack counts, and spells the tables of a lawful image
pub record HoldsLawful (geometry : Geometry) (area : List ℕ) : Type 0 where
  pub image : Image
  pub lawful : IsLawful geometry image
  pub tables : HoldsTables geometry image area

-- the superblock of these numbers, and with it such a pack
pub record HasVolume (geometry : Geometry) (area : List ℕ) : Type 0 where
  pub front : HasSuper geometry area
  pub counts : ∥ HoldsLawful geometry area ∥₁
