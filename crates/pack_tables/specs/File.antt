-- An image file: the bytes of the meta area, and behind them the main blocks in address order (Linux filesystems/f2fs, on-disk layout; how the bytes lie is this project's own).
use Rattle.std.specs.Prelude.{◌≡◌, ◌≢◌, ◌⊎◌, ℕ, ◌+◌, ◌-◌, ◌*◌, List, length, take, drop, Option, Some, None}
use Rattle.geometry.specs.declared.geometry.Geometry.{Geometry}
use Rattle.geometry.specs.declared.error.Error.{Error}
use Rattle.geometry.specs.declared.error.Error.TheVariants.{NoMemory, BadGeometry, NoPack, BadImage}
use Rattle.geometry.specs.Shape.{block_bytes}
use Rattle.geometry.specs.Area.{block_count, meta_bytes}
use Rattle.geometry.specs.File.{Block}
use Rattle.image.specs.Image.{Image}
use Rattle.packs.specs.Area.{reading_of}
use Rattle.packs.specs.Pack.{slots_in}
use Rattle.image.specs.Slots.{Slot, picked}
use Rattle.image.specs.Reading.{image_in}
use Rattle.image.specs.Rules.{IsLeastFault}
use Rattle.pack_tables.specs.Grammar.{HasSuper, SpellsTables, SpellsNoTables}

abbrev pub file_bytes : Geometry → ℕ
file_bytes geometry = meta_bytes geometry + block_count geometry * block_bytes geometry.shape

-- the block at an address; no bytes past the last block
abbrev pub block_in : Geometry → List ℕ → ℕ → Block
block_in geometry file address = take (block_bytes geometry.shape) (drop (meta_bytes geometry + (address - 1) * block_bytes geometry.shape) file)

abbrev pub slot_in : Geometry → List ℕ → ℕ → Slot
slot_in geometry file slot = slots_in (reading_of geometry) file slot

-- the body of the pack that counts
abbrev pub picked_body : Geometry → List ℕ → Option (List ℕ)
picked_body geometry file = picked (slot_in geometry file)

-- what a body and the main blocks of the file hold
abbrev pub file_image : Geometry → List ℕ → List ℕ → Image
file_image geometry file body = image_in geometry body (block_in geometry file)

-- A file of the geometry's size holds an image: the pack that counts spells tables, which with the blocks are the image.
pub record HoldsImage (geometry : Geometry) (file : List ℕ) (image : Image) : Type 0 where
  pub size : length file ≡ file_bytes geometry
  pub body : List ℕ
  pub picked : picked_body geometry file ≡ Some body
  pub tables : Image
  pub spelled : SpellsTables geometry body tables
  pub whole : image ≡ file_image geometry file body

-- the fault of a picked body: it spells no tables, or the image breaks a rule and keeps those before it
abbrev pub IsBodyFault : Geometry → List ℕ → List ℕ → ℕ → Type 0
IsBodyFault geometry file body fault =
    ((fault ≡ 1) × SpellsNoTables geometry body)
    ⊎ (((tables : Image) × SpellsTables geometry body tables) × IsLeastFault geometry (file_image geometry file body) fault)

-- the fault of a file: its size, or that of the picked body
abbrev pub IsFileFault : Geometry → List ℕ → ℕ → Type 0
IsFileFault geometry file fault =
    ((fault ≡ 1) × (length file ≢ file_bytes geometry))
    ⊎ ((length file ≡ file_bytes geometry) × ((body : List ℕ) × (picked_body geometry file ≡ Some body) × IsBodyFault geometry file body fault))

-- the refusals of a file whose superblock is good
abbrev pub IsRefusalOf : Geometry → List ℕ → Error → Type 0
IsRefusalOf geometry file NoMemory = Unit {0}
IsRefusalOf geometry file NoPack = (length file ≡ file_bytes geometry) × (picked_body geometry file ≡ None)
IsRefusalOf geometry file (BadImage fault) = IsFileFault geometry file fault
IsRefusalOf geometry file other = ⊥

-- the refusals of a file: its superblock is tested first, then its size, then whether a pack counts
abbrev pub IsFileRefusal : List ℕ → Error → Type 0
IsFileRefusal file NoMemory = Unit {0}
IsFileRefusal file BadGeometry = (geometry : Geometry) → ¬ HasSuper geometry file
IsFileRefusal file other = (geometry : Geometry) × HasSuper geometry file × IsRefusalOf geometry file other
