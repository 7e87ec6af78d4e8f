-- What the parts of a device hold, and why they are refused (Linux filesystems/f2fs, superblock, checkpoint area and main area).
use Rattle.std.specs.Prelude.{◌≡◌, ◌⊎◌, ℕ, List, map, Some, None}
use Rattle.device.specs.Disk.{Leaves, LeavesOnly}
use Rattle.device.specs.Parts.{HasSize}
use Rattle.device.specs.declared.parts.Parts.{Parts}
use Rattle.geometry.specs.declared.geometry.Geometry.{Geometry}
use Rattle.geometry.specs.declared.error.Error.{Error}
use Rattle.geometry.specs.declared.error.Error.TheVariants.{NoMemory, Device, BadGeometry, NoPack, BadImage}
use Rattle.geometry.specs.File.{Block}
use Rattle.image.specs.Image.{Image}
use Rattle.image.specs.Reading.{read_nodes}
use Rattle.image.specs.Rules.{IsLeastFault}
use Rattle.packs.specs.Area.{reading_of}
use Rattle.packs.specs.Device.{IsSameArea, KeepsArea}
use Rattle.packs.specs.Pack.{picked, Between}
use Rattle.pack_tables.specs.Grammar.{HasSuper, SpellsTables, SpellsNoTables}
use Rattle.pack_tables.specs.Holding.{HoldsTables}
use Rattle.image_codec.specs.Blocks.{bytes_at}

-- The pack that counts spells the tables of an image, and its nodes are those that stand in the blocks where the tables name them.
pub record HoldsImage {M B : Type 0} (seen : M → List ℕ) (content_of : B → List ℕ) (geometry : Geometry) (parts : Parts M B) (image : Image) : Type 0 where
  pub tables : HoldsTables geometry image (seen parts.meta)
  pub nodes : image.nodes ≡ read_nodes geometry.shape (bytes_at content_of parts.blocks.items) image.node_table

-- The fault of a body with these blocks: it spells no tables, or the image that it spells breaks a rule and keeps those before it.
abbrev pub IsBodyFault : Geometry → List ℕ → (ℕ → Block) → ℕ → Type 0
IsBodyFault geometry body bytes fault =
    ((fault ≡ 1) × SpellsNoTables geometry body)
    ⊎ ((image : Image) × SpellsTables geometry body image × (image.nodes ≡ read_nodes geometry.shape bytes image.node_table) × IsLeastFault geometry image fault)

-- the refusals of a body
abbrev pub IsBodyRefusal : Geometry → List ℕ → (ℕ → Block) → Error → Type 0
IsBodyRefusal geometry body bytes NoMemory = Unit {0}
IsBodyRefusal geometry body bytes Device = Unit {0}
IsBodyRefusal geometry body bytes (BadImage fault) = IsBodyFault geometry body bytes fault
IsBodyRefusal geometry body bytes other = ⊥

-- the fault of parts whose superblock is good: their size, or that of the body that counts
abbrev pub IsPartsFault : {M B : Type 0} → (M → List ℕ) → (B → ℕ) → (B → List ℕ) → Geometry → Parts M B → ℕ → Type 0
IsPartsFault seen address_of content_of geometry parts fault =
    ((fault ≡ 1) × ¬ HasSize seen address_of content_of geometry parts)
    ⊎ (HasSize seen address_of content_of geometry parts × ((body : List ℕ) × (picked (reading_of geometry) (seen parts.meta) ≡ Some body)
    × IsBodyFault geometry body (bytes_at content_of parts.blocks.items) fault))

-- The refusals of parts: the superblock is tested first, then the size, then whether a pack counts. Of NoMemory and Device
-- they say nothing.
abbrev pub IsPartsRefusal : {M B : Type 0} → (M → List ℕ) → (B → ℕ) → (B → List ℕ) → Parts M B → Error → Type 0
IsPartsRefusal seen address_of content_of parts NoMemory = Unit {0}
IsPartsRefusal seen address_of content_of parts Device = Unit {0}
IsPartsRefusal seen address_of content_of parts BadGeometry = (geometry : Geometry) → ¬ HasSuper geometry (seen parts.meta)
IsPartsRefusal seen address_of content_of parts NoPack =
    (geometry : Geometry) × HasSuper geometry (seen parts.meta) × HasSize seen address_of content_of geometry parts
    × (picked (reading_of geometry) (seen parts.meta) ≡ None)
IsPartsRefusal seen address_of content_of parts (BadImage fault) =
    (geometry : Geometry) × HasSuper geometry (seen parts.meta) × IsPartsFault seen address_of content_of geometry parts fault
IsPartsRefusal seen address_of content_of parts other = ⊥

-- the parts have the size that they had, the same superblock, and the same blocks
pub record AreSameParts {M B : Type 0} (seen : M → List ℕ) (address_of : B → ℕ) (content_of : B → List ℕ) (old new : Parts M B) : Type 0 where
  pub area : IsSameArea (seen old.meta) (seen new.meta)
  pub addresses : map address_of new.blocks.items ≡ map address_of old.blocks.items
  pub contents : map content_of new.blocks.items ≡ map content_of old.blocks.items

-- the pack that counts is the one that did, by the numbers that the superblock tells
abbrev pub KeepsPack : {M : Type 0} → (M → List ℕ) → M → M → Type 0
KeepsPack seen old new =
    (geometry : Geometry) → HasSuper geometry (seen old) → picked (reading_of geometry) (seen new) ≡ picked (reading_of geometry) (seen old)

-- Where a crash before leaves one pack or the next, a crash at any moment since does.
abbrev pub KeepsBetween : {M : Type 0} → (M → List ℕ) → (M → List ℕ → Type 0) → (M → ℕ) → (M → ℕ → List ℕ → Type 0) → M → M → Type 0
KeepsBetween seen may_leave moment left_since old new =
    (geometry : Geometry) (one next : List ℕ) → HasSuper geometry (seen old)
    → Leaves may_leave old (KeepsArea (seen old) (Between (reading_of geometry) one next))
    → LeavesOnly moment left_since old new (KeepsArea (seen old) (Between (reading_of geometry) one next))
