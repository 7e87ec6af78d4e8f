-- What the packs of a volume hold as images, whatever crash comes (Linux filesystems/f2fs, checkpoint area).
use Rattle.std.specs.Prelude.{◌≡◌, ℕ, List, [], ◌∷◌}
use Rattle.geometry.specs.declared.geometry.Geometry.{Geometry}
use Rattle.geometry.specs.declared.shape.Shape.{Shape}
use Rattle.geometry.specs.File.{Block}
use Rattle.image.specs.Image.{Image}
use Rattle.image.specs.Pack.{pack_body}
use Rattle.image.specs.Reading.{read_nodes}
use Rattle.device.specs.Disk.{Leaves, LeavesOnly}
use Rattle.packs.specs.Area.{reading_of}
use Rattle.packs.specs.Device.{AreSettled, KeepsArea, body_of}
use Rattle.packs.specs.Pack.{Between}
use Rattle.packs.specs.declared.packs.Packs.{Packs}
use Rattle.pack_tables.specs.Holding.{HoldsTables}
use Rattle.checkpoint.specs.declared.image_packs.ImagePacks.{ImagePacks}

-- the body of the pack that counts
abbrev pub counting_body : {D : Type 0} → (D → List ℕ) → ImagePacks D → List ℕ
counting_body seen packs = body_of (reading_of packs.area.geometry) seen packs.area

-- the packs have the size of the volume, and each crash at this moment leaves the one that counts
pub record AreWhole {D : Type 0} (seen : D → List ℕ) (may_leave : D → List ℕ → Type 0) (packs : ImagePacks D) : Type 0 where
  pub size : packs.area.geometry ≡ packs.geometry
  pub settled : AreSettled (reading_of packs.area.geometry) seen may_leave packs.area (counting_body seen packs)

-- the image as it is read with these main blocks: its tables, and the nodes that stand where they name them
abbrev pub read_with : Shape → (ℕ → Block) → Image → Image
read_with shape blocks image = record image { nodes = read_nodes shape blocks image.node_table }

-- what was shown of a write is one pack of a volume of these numbers: that of the image's version, and each crash right after
-- the write leaves a pack that counts and spells the image's tables
abbrev pub IsInPack : {D : Type 0} → (D → List ℕ → Type 0) → Geometry → Image → List (Packs D × ℕ) → Type 0
IsInPack {D} may_leave geometry image shown =
    (packs : Packs D) × (shown ≡ (packs, image.version) ∷ []) × (packs.geometry ≡ geometry) × Leaves may_leave packs.meta (HoldsTables geometry image)

-- an image was written over packs: a crash at any moment since leaves their body or the image's as the one that counts
abbrev pub IsWrittenOver : {D : Type 0} → (D → List ℕ) → (D → ℕ) → (D → ℕ → List ℕ → Type 0) → ImagePacks D → D → Image → Type 0
IsWrittenOver seen moment left_since before meta image =
    LeavesOnly moment left_since before.area.meta meta
    (KeepsArea (seen before.area.meta) (Between (reading_of before.area.geometry) (counting_body seen before) (pack_body before.geometry.shape image)))

-- the same over some packs of a volume of these numbers, which were whole
abbrev pub WasWrittenOver : {D : Type 0} → (D → List ℕ) → (D → List ℕ → Type 0) → (D → ℕ) → (D → ℕ → List ℕ → Type 0) → Geometry → D → Image → Type 0
WasWrittenOver {D} seen may_leave moment left_since geometry meta image =
    (before : ImagePacks D) × AreWhole seen may_leave before × (before.geometry ≡ geometry) × IsWrittenOver seen moment left_since before meta image

-- what was shown of a write is one pack, which was written so
abbrev pub IsShownOver : {D : Type 0} → (D → List ℕ) → (D → List ℕ → Type 0) → (D → ℕ) → (D → ℕ → List ℕ → Type 0) → Geometry → Image → List (Packs D × ℕ) → Type 0
IsShownOver {D} seen may_leave moment left_since geometry image shown =
    (packs : Packs D) × (shown ≡ (packs, image.version) ∷ []) × WasWrittenOver seen may_leave moment left_since geometry packs.meta image
