-- Which bytes are a superblock, and which the body of a checkpoint pack (Linux filesystems/f2fs, superblock and checkpoint area; how the bytes lie is this project's own).
use Rattle.std.specs.Prelude.{◌≡◌, ◌<◌, ◌≤◌, ◌↔◌, ℕ, ◌-◌, ◌^◌, List, length, take, All, IfSome}
use Rattle.geometry.specs.declared.shape.Shape.{Shape}
use Rattle.geometry.specs.declared.geometry.Geometry.{Geometry}
use Rattle.geometry.specs.declared.owner.Summary.{Summary}
use Rattle.geometry.specs.Shape.{segment_blocks}
use Rattle.geometry.specs.Area.{block_count}
use Rattle.image.specs.declared.image.NodeEntry.{NodeEntry}
use Rattle.image.specs.declared.image.LogHead.{LogHead}
use Rattle.image.specs.Image.{Image, SegmentInfo}
use Rattle.image.specs.Pack.{superblock, pack_body}

-- There are 64 bytes, and the first 32 of them tell the geometry. The maps of the two slots stand in the others; what comes
-- behind them does not matter.
abbrev pub HasSuper : Geometry → List ℕ → Type 0
HasSuper geometry bytes = (64 ≤ length bytes) × (take 32 bytes ≡ take 32 (superblock geometry))

-- the largest number stands for no segment
abbrev pub IsPlaceRow : LogHead → Type 0
IsPlaceRow place = (place.segment < 2 ^ 32 - 1) × (place.next < 2 ^ 32)

-- an inode number and an address, or neither
abbrev pub IsEntryRow : NodeEntry → Type 0
IsEntryRow entry = (entry.inode < 2 ^ 32) × (entry.address < 2 ^ 32) × ((entry.inode ≡ 0) ↔ (entry.address ≡ 0))

-- a bit for each block
abbrev pub IsSegmentRow : Shape → SegmentInfo → Type 0
IsSegmentRow shape info = (info.count < 2 ^ 32) × (info.mtime < 2 ^ 64) × (length info.bits ≡ segment_blocks shape)

abbrev pub IsSummaryRow : Summary → Type 0
IsSummaryRow summary = (summary.nid < 2 ^ 32) × (summary.slot < 2 ^ 32)

-- An image with a spelling: its tables have their lengths, and each number fits its field.
pub record HasSpelling (geometry : Geometry) (image : Image) : Type 0 where
  pub version : image.version < 2 ^ 32
  pub total : image.total < 2 ^ 32
  pub logs : length image.logs ≡ 6
  pub places : All (λ log. IfSome log IsPlaceRow) image.logs
  pub table : length image.node_table ≡ geometry.nodes
  pub entries : All IsEntryRow image.node_table
  pub segments : length image.segments ≡ geometry.segments
  pub infos : All (IsSegmentRow geometry.shape) image.segments
  pub summaries : length image.summaries ≡ block_count geometry
  pub owners : All IsSummaryRow image.summaries

-- The numbers of the tables that a rule on ranges leaves open fit their fields.
pub record HasSmallNumbers (image : Image) : Type 0 where
  pub version : image.version < 2 ^ 32
  pub total : image.total < 2 ^ 32
  pub infos : All (λ info. (info.count < 2 ^ 32) × (info.mtime < 2 ^ 64)) image.segments
  pub owners : All IsSummaryRow image.summaries

-- a body spells the tables of an image; its nodes stand in the main blocks
abbrev pub SpellsTables : Geometry → List ℕ → Image → Type 0
SpellsTables geometry body image = HasSpelling geometry image × (body ≡ pack_body geometry.shape image)

abbrev pub SpellsNoTables : Geometry → List ℕ → Type 0
SpellsNoTables geometry body = (image : Image) → ¬ SpellsTables geometry body image
