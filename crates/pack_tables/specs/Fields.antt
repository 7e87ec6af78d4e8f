-- The numbers of a superblock, where they stand.
use Rattle.std.specs.Prelude.{◌≡◌, ℕ, List}
use Rattle.geometry.specs.declared.geometry.Geometry.{Geometry}
use Rattle.image.specs.Pack.{packing_code, shape_code}
use Rattle.image.specs.Reading.{number_at}

pub record HasNumbers (geometry : Geometry) (bytes : List ℕ) : Type 0 where
  pub packing : number_at bytes 8 ≡ packing_code geometry.packing
  pub shape : number_at bytes 12 ≡ shape_code geometry.shape
  pub segments : number_at bytes 16 ≡ geometry.segments
  pub per_section : number_at bytes 20 ≡ geometry.per_section
  pub files : number_at bytes 24 ≡ geometry.files
  pub nodes : number_at bytes 28 ≡ geometry.nodes
