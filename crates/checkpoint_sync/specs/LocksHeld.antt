-- What the locks of a main area hold, all of them at once.
use Rattle.std.specs.Prelude.{◌≡◌, ◌≢◌, ℕ, ◌+◌, List, slice_get, Option, Some, None, length}
use Rattle.atomic_table.specs.Seated.{TableId}
use Rattle.geometry.specs.declared.geometry.Geometry.{Geometry}
use Rattle.image.specs.Image.{Image, entry_of, node_of}
use Rattle.image_law.specs.Items.{Among}
use Rattle.image_law.specs.Parts.{Stored, FileTree, stored_of}
use Rattle.words.specs.Tokens.{OpenSegment}
use Rattle.sit.specs.Registered.{Registered}
use Rattle.nat.specs.Shard.{ShardNodes}
use Rattle.nat.specs.Table.{IsShardAt}
use Rattle.area.specs.Cells.{LogStands}
use Rattle.checkpoint_image.specs.Cells.{Cells, Filed, IsSegmentAt, IsFiledAt}
use Rattle.checkpoint_image.specs.Held.{cells_in}
use Rattle.checkpoint_image.specs.Kept.{AreSegmentParts, AreShardParts}

-- the segment of this number under its law, of these books and words
pub record IsHeldSegment (geometry : Geometry) (book table : TableId) (number : ℕ) (r : Registered) : Type 0 where
  pub at : IsSegmentAt geometry number r.segment
  pub book_is : r.book ≡ book
  pub table_is : r.table ≡ table

-- a log: its number, and the slip of its open segment, where it has one
pub record LogView : Type 0 where
  pub number : ℕ
  pub slip : Option OpenSegment

-- the log of this number, whose open segment is of these words and one of so many
pub record IsHeldLog (table : TableId) (count : ℕ) (number : ℕ) (log : LogView) : Type 0 where
  pub number_is : log.number ≡ number
  pub stands : LogStands table count log.slip

-- the segments, the shards and the logs, from 0 on
abbrev pub AreHeldSegments : Geometry → TableId → TableId → List Registered → Type 0
AreHeldSegments geometry book table segments = (k : ℕ) (r : Registered) → slice_get segments k ≡ Some r → IsHeldSegment geometry book table k r

abbrev pub AreHeldShards : TableId → ℕ → List ShardNodes → Type 0
AreHeldShards book nodes shards = (k : ℕ) (s : ShardNodes) → slice_get shards k ≡ Some s → IsShardAt book nodes k s

abbrev pub AreHeldLogs : TableId → ℕ → List LogView → Type 0
AreHeldLogs table count logs = (k : ℕ) (log : LogView) → slice_get logs k ≡ Some log → IsHeldLog table count k log

-- what the locks of a main area hold, all of them at once
pub record AreaView : Type 0 where
  pub segments : List Registered
  pub shards : List ShardNodes
  pub logs : List LogView

-- all of them, from 0 on, each under its law and with the part that its row is noted for
pub record IsHeldArea (geometry : Geometry) (book rows table : TableId) (segments : List Registered) (shards : List ShardNodes) (logs : List LogView) : Type 0 where
  pub every_segment : length segments ≡ geometry.segments
  pub segments_are : AreHeldSegments geometry book table segments
  pub segment_parts : AreSegmentParts rows segments
  pub every_shard : length shards ≡ 16
  pub shards_are : AreHeldShards book geometry.nodes shards
  pub shard_parts : AreShardParts rows geometry.segments shards
  pub every_log : length logs ≡ 6
  pub logs_are : AreHeldLogs table geometry.segments logs

-- the files from inode 1 on, each under its law
abbrev pub AreHeldFiles : Geometry → List Filed → Type 0
AreHeldFiles geometry files = (k : ℕ) (f : Filed) → slice_get files k ≡ Some f → IsFiledAt geometry (k + 1) f

-- the segment that a log has open, by its slip
abbrev pub opened_by : Option OpenSegment → Option ℕ
opened_by None = None
opened_by (Some slip) = Some slip.segment

abbrev pub open_in : LogView → Option ℕ
open_in log = opened_by log.slip

-- what the locks of a main area hold, with files
abbrev pub held_cells : {F : Type 0} → (F → Filed) → AreaView → List F → Cells
held_cells filed area files = cells_in (λ r. r) (λ s. s) open_in filed area.segments area.shards area.logs files

-- an image has each node of a file's tree, and its entry of the node address table
abbrev pub HasTree : Image → FileTree → Type 0
HasTree image tree =
    (s : Stored) → Among s (stored_of tree)
    → (entry_of image s.node.nid ≡ record { inode = s.node.inode; address = s.address }) × (node_of image s.node.nid ≡ s.node) × (s.address ≢ 0)

-- it has all trees of these files
abbrev pub HasTrees : Image → List Filed → Type 0
HasTrees image files = (k : ℕ) (f : Filed) (tree : FileTree) → slice_get files k ≡ Some f → f.tree ≡ Some tree → HasTree image tree
