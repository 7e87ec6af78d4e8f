-- What is made for a volume that is mounted before its tables have names.
use Rattle.std.specs.Prelude.{◌≡◌, ℕ, ◌+◌, ◌<◌, ◌≤◌, [], None, true, length, replicate, slice_index_or, vec_capacity}
use Rattle.packs_journal.specs.Places.{map_pages}
use Rattle.atomic_table.specs.Seated.{TableId}
use Rattle.geometry.specs.declared.geometry.Geometry.{Geometry}
use Rattle.geometry.specs.Area.{block_count}
use Rattle.image.specs.Image.{Image}
use Rattle.rights_permits.specs.Names.{layout_of}
use Rattle.nat.specs.Shard.{ShardNodes}
use Rattle.mount_blocks.specs.Rights.{AreRights}
use Rattle.mount_blocks.specs.Goods.{AreShards}
use Rattle.mount.specs.MountFiles.{AreRooms}
use Rattle.mount.specs.Empty.{AreEmptyAccounts}
use Rattle.mount.specs.declared.loading_all.VolumeMemory.{VolumeMemory}
use Rattle.words.specs.Tokens.{fresh_holder}
use Rattle.mount.specs.declared.made.MountTables.{MountTables}
use Rattle.mount.specs.declared.made.VolumeRows.{VolumeRows}
use Rattle.area.specs.Opening.{PartsFall}
use Rattle.packs_journal.specs.Pages.{has_page}

-- The memory for all that comes out of an image, and the rights to it by these books and words. Nothing has come yet.
pub record IsMemory {B L : Type 0} (geometry : Geometry) (image : Image) (book table : TableId) (memory : VolumeMemory B L) : Type 0 where
  pub rights : AreRights geometry.shape book table memory.segments.rights.rooms.items memory.segments.rights.accounts.items memory.segments.rights.standings.items memory.segments.rights.slips.items
  pub every_segment : length memory.segments.rights.rooms.items ≡ geometry.segments
  pub no_segments : (memory.segments.room.states.items ≡ []) × (memory.segments.room.free.items ≡ []) × (memory.segments.room.logs.items ≡ replicate 6 None)
  pub states_fit : geometry.segments ≤ vec_capacity memory.segments.room.states
  pub free_fit : geometry.segments ≤ vec_capacity memory.segments.room.free
  pub shards : AreShards book geometry.nodes memory.shards.items
  pub no_numbers : (k : ℕ) (other : ShardNodes) → k < length memory.shards.items → (slice_index_or memory.shards.items k other).taken ≡ []
  pub accounts : AreEmptyAccounts book memory.accounts.items
  pub every_file : length memory.accounts.items ≡ geometry.files
  pub rooms : AreRooms geometry image memory.rooms.items
  pub no_tickets : memory.tickets.items ≡ replicate (block_count geometry + 1) None
  pub no_tokens : memory.tokens.items ≡ replicate (geometry.nodes + 1) None
  pub no_files : memory.files.items ≡ replicate (geometry.files + 1) None

-- The rows of its segments and its shards, all blank, with both accounts of each, of which the first come in falling order.
pub record AreVolumeRows (geometry : Geometry) (rows : VolumeRows) : Type 0 where
  pub every_part : length rows.parts.items ≡ geometry.segments + 16
  pub parts : PartsFall rows.body.rows (geometry.segments + 16) rows.parts.items
  pub numbers : rows.body.geometry ≡ geometry
  pub touched : (k : ℕ) → k < map_pages → has_page rows.body.body.touched k ≡ true

-- Books of the volume's layout and words of its segments, with all permits and seats out, and the image's version complete; and
-- such memory.
pub record AreTables {B L : Type 0} (geometry : Geometry) (image : Image) (tables : MountTables B L) : Type 0 where
  pub layout : tables.books.key ≡ layout_of geometry
  pub permits : tables.permits ≡ record { book = tables.books.book; count = 64 }
  pub segments : tables.words.segments ≡ geometry.segments
  pub seats : tables.seats.items ≡ replicate 64 (fresh_holder tables.words.table)
  pub checkpoint : (tables.checkpoint.table ≡ tables.words.table) × (tables.checkpoint.version ≡ image.version)
  pub rows : AreVolumeRows geometry tables.rows
  pub memory : IsMemory geometry image tables.books.book tables.words.table tables.memory
