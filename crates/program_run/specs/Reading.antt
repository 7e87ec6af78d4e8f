-- Which front of an image file tells whether it is refused, and why.
use Rattle.std.specs.Prelude.{◌≡◌, ◌<◌, ◌≤◌, ◌⊎◌, ℕ, List, length, take}
use Rattle.geometry.specs.declared.geometry.Geometry.{Geometry}
use Rattle.pack_tables.specs.File.{file_bytes}
use Rattle.pack_tables.specs.Grammar.{HasSuper}

-- there are the bytes of a superblock, and more than that tells, if it is one
abbrev pub IsTooLong : List ℕ → Type 0
IsTooLong read = (64 ≤ length read) × ((geometry : Geometry) → HasSuper geometry read → file_bytes geometry < length read)

-- the front of a file: all of it, or so much that it is refused whatever comes behind
pub record IsEnoughOf (read file : List ℕ) : Type 0 where
  pub front : read ≡ take (length read) file
  pub enough : (read ≡ file) ⊎ IsTooLong read

-- the bytes have the size that their superblock tells
abbrev pub IsWhole : List ℕ → Type 0
IsWhole bytes = (geometry : Geometry) × HasSuper geometry bytes × (length bytes ≡ file_bytes geometry)
