-- Why the bytes of an image file are refused, in the order in which they are tested (Linux filesystems/f2fs, superblock, checkpoint area and main area).
use Rattle.std.specs.Prelude.{◌≡◌, ◌≢◌, ◌⊎◌, ℕ, List, length, Some, None}
use Rattle.geometry.specs.declared.error.Error.{Error}
use Rattle.geometry.specs.declared.error.Error.TheVariants.{NoMemory, BadGeometry, NoPack, BadImage}
use Rattle.geometry.specs.declared.geometry.Geometry.{Geometry}
use Rattle.image.specs.Image.{Image}
use Rattle.image.specs.Reading.{read_nodes}
use Rattle.image.specs.Rules.{IsLeastFault}
use Rattle.image_reading.specs.Held.{area_in}
use Rattle.image_reading.specs.declared.fault.ReadFault.{ReadFault}
use Rattle.image_reading.specs.declared.fault.ReadFault.TheVariants.{Refused}
use Rattle.packs.specs.Area.{reading_of}
use Rattle.packs.specs.Pack.{picked}
use Rattle.pack_tables.specs.File.{block_in, file_bytes}
use Rattle.pack_tables.specs.Grammar.{HasSuper, SpellsTables, SpellsNoTables}

-- what is said of a refusal; of a source or a writer that failed it says nothing
abbrev pub IfRefused : ReadFault → (Error → Type 0) → Type 0
IfRefused (Refused error) P = P error
IfRefused other P = Unit {0}

-- the pack that counts in an area: there is none, or it spells no tables
abbrev pub IsAreaRefusal : Geometry → List ℕ → Error → Type 0
IsAreaRefusal geometry area NoMemory = Unit {0}
IsAreaRefusal geometry area NoPack = picked (reading_of geometry) area ≡ None
IsAreaRefusal geometry area (BadImage fault) = (fault ≡ 1) × ((body : List ℕ) × (picked (reading_of geometry) area ≡ Some body) × SpellsNoTables geometry body)
IsAreaRefusal geometry area other = ⊥

-- an image whose tables the pack that counts spells, and whose nodes stand in the blocks that these name, breaks this rule first
pub record HasFault (geometry : Geometry) (bytes : List ℕ) (fault : ℕ) : Type 0 where
  pub body : List ℕ
  pub picked : picked (reading_of geometry) (area_in geometry bytes) ≡ Some body
  pub image : Image
  pub tables : SpellsTables geometry body image
  pub nodes : image.nodes ≡ read_nodes geometry.shape (block_in geometry bytes) image.node_table
  pub least : IsLeastFault geometry image fault

-- the superblock is tested first, and then the length
abbrev pub IsFrontRefusal : List ℕ → Error → Type 0
IsFrontRefusal bytes BadGeometry = (geometry : Geometry) → ¬ HasSuper geometry bytes
IsFrontRefusal bytes (BadImage fault) = (fault ≡ 1) × ((geometry : Geometry) × HasSuper geometry bytes × (length bytes ≢ file_bytes geometry))
IsFrontRefusal bytes other = ⊥

-- and then the pack that counts, and the image
pub record IsInside (geometry : Geometry) (bytes : List ℕ) (error : Error) : Type 0 where
  pub super : HasSuper geometry bytes
  pub size : length bytes ≡ file_bytes geometry
  pub refused : IsAreaRefusal geometry (area_in geometry bytes) error ⊎ ((fault : ℕ) × (error ≡ BadImage fault) × HasFault geometry bytes fault)

-- the refusals of bytes; of NoMemory they say nothing
abbrev pub IsBytesRefusal : List ℕ → Error → Type 0
IsBytesRefusal bytes error = (error ≡ NoMemory) ⊎ (IsFrontRefusal bytes error ⊎ ((geometry : Geometry) × IsInside geometry bytes error))
