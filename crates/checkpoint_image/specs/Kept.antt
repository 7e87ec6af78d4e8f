-- The body of a pack that is kept between checkpoints, and the rows of the parts that it spells (Linux filesystems/f2fs, node
-- address table, segment information table and segment summary area).
use Rattle.std.specs.Prelude.{◌≡◌, ◌≢◌, ◌<◌, ◌≤◌, ◌+◌, ◌*◌, ◌/◌, ◌%◌, ◌^◌, ℕ, List, map, length, slice_get, slice_index_or, count_by, All, Some}
use Rattle.std.specs.List.{flat_map}
use Rattle.atomic_table.specs.Seated.{TableId}
use Rattle.geometry.specs.declared.geometry.Geometry.{Geometry}
use Rattle.geometry.specs.declared.shape.Shape.{Shape}
use Rattle.geometry.specs.declared.owner.Summary.{Summary}
use Rattle.geometry.specs.Shape.{segment_blocks}
use Rattle.device.specs.Disk.{part}
use Rattle.image.specs.declared.image.NodeEntry.{NodeEntry}
use Rattle.image.specs.Image.{SegmentInfo}
use Rattle.image.specs.Pack.{body_bytes, entry_bytes, segment_bytes, summary_bytes}
use Rattle.image_law.specs.Parts.{Token, is_named, summary_in, found}
use Rattle.pack_tables.specs.Grammar.{IsSummaryRow}
use Rattle.rights_books.specs.declared.row_claim.NodeRow.{NodeRow}
use Rattle.rights_books.specs.declared.row_claim.Row.{Row}
use Rattle.rights_books.specs.RowAccounts.{RowView}
use Rattle.rights_books.specs.RowRules.{blank}
use Rattle.sit.specs.Registered.{Registered}
use Rattle.sit.specs.Noted.{segment_row}
use Rattle.nat.specs.Shard.{ShardNodes}
use Rattle.nat.specs.Noted.{shard_row}

-- what a pack spells of a segment with this row
abbrev pub info_of : Row → SegmentInfo
info_of row = let bits = map is_named row.owners in record { count = count_by (λ bit. bit) bits; mtime = row.mtime; bits = bits }

abbrev pub owners_of : Row → List Summary
owners_of row = map summary_in row.owners

-- and of a node number in a shard with this row
abbrev pub token_in : NodeRow → Token
token_in node = record { nid = node.number; inode = node.inode; address = node.address }

abbrev pub entry_of : Row → ℕ → NodeEntry
entry_of row number = found number (map token_in row.nodes)

-- the row of part k, blank where there is no such part
abbrev pub row_at : List RowView → ℕ → Row
row_at parts k = slice_index_or (map (λ (v : RowView). v.row) parts) k blank

-- behind header and logs, 56 bytes, lie the rows of the three tables
abbrev pub info_bytes : Shape → ℕ
info_bytes shape = 12 + segment_blocks shape / 8

abbrev pub owners_bytes : Shape → ℕ
owners_bytes shape = 8 * segment_blocks shape

abbrev pub infos_at : Geometry → ℕ
infos_at geometry = 56 + 8 * geometry.nodes

abbrev pub owners_at : Geometry → ℕ
owners_at geometry = infos_at geometry + geometry.segments * info_bytes geometry.shape

-- row k of a table that begins at a byte of a body and has rows of so many bytes
abbrev pub row_in : ℕ → ℕ → ℕ → List ℕ → List ℕ
row_in base size k body = part (base + k * size) size body

-- These bytes were put as row k of such a table: they stand there, and its other rows, what lies before the table and what lies
-- behind the row stay.
pub record IsRowPut (base size k : ℕ) (bytes old new : List ℕ) : Type 0 where
  pub own : row_in base size k new ≡ bytes
  pub beside : (j : ℕ) → j ≢ k → row_in base size j new ≡ row_in base size j old
  pub before : (p n : ℕ) → p + n ≤ base → part p n new ≡ part p n old
  pub behind : (p n : ℕ) → base + k * size + size ≤ p → part p n new ≡ part p n old
  pub long : length new ≡ length old

-- the numbers of a segment's row fit their fields
pub record IsSmallRow (row : Row) : Type 0 where
  pub count : (info_of row).count < 2 ^ 32
  pub mtime : (info_of row).mtime < 2 ^ 64
  pub owners : All IsSummaryRow (owners_of row)

-- A body spells segment k with this row. Of a row that tells no blocks, as one that was never noted, nothing is said of their owners.
pub record IsSegmentIn (geometry : Geometry) (body : List ℕ) (k : ℕ) (row : Row) : Type 0 where
  pub info : row_in (infos_at geometry) (info_bytes geometry.shape) k body ≡ segment_bytes geometry.shape (info_of row)
  pub owners : length row.owners ≡ segment_blocks geometry.shape
      → row_in (owners_at geometry) (owners_bytes geometry.shape) k body ≡ flat_map summary_bytes (owners_of row)
  pub small : IsSmallRow row

-- the entry of a node number, of these shards, each of the numbers that leave its own by 16
abbrev pub IsEntryIn : Geometry → List ℕ → List RowView → ℕ → Type 0
IsEntryIn geometry body parts k =
    row_in 56 8 k body ≡ entry_bytes (entry_of (row_at parts (geometry.segments + (k + 1) % 16)) (k + 1))

-- A body spells each part with its row, the segments first and then the shards. What stands in its header is not said.
pub record IsKeptBody (geometry : Geometry) (parts : List RowView) (body : List ℕ) : Type 0 where
  pub long : length body ≡ body_bytes geometry
  pub entries : (k : ℕ) → k < geometry.nodes → IsEntryIn geometry body parts k
  pub segments : (k : ℕ) → k < geometry.segments → IsSegmentIn geometry body k (row_at parts k)

-- the segments are the first parts of these rows, and the shards the parts behind so many
abbrev pub AreSegmentParts : TableId → List Registered → Type 0
AreSegmentParts rows segments = (k : ℕ) (r : Registered) → slice_get segments k ≡ Some r → r.part ≡ Some (record { book = rows; number = k })

abbrev pub AreShardParts : TableId → ℕ → List ShardNodes → Type 0
AreShardParts rows first shards = (k : ℕ) (s : ShardNodes) → slice_get shards k ≡ Some s → s.part ≡ Some (record { book = rows; number = first + k })

-- the row of each is noted as it is now
abbrev pub AreNotedSegments : List RowView → List Registered → Type 0
AreNotedSegments parts segments = (k : ℕ) (r : Registered) → slice_get segments k ≡ Some r → row_at parts k ≡ segment_row r.segment

abbrev pub AreNotedShards : ℕ → List RowView → List ShardNodes → Type 0
AreNotedShards first parts shards = (k : ℕ) (s : ShardNodes) → slice_get shards k ≡ Some s → row_at parts (first + k) ≡ shard_row s.taken
