-- What lies in a volume's locks while all of them are held, and the parts of an image that it makes.
use Rattle.std.specs.Prelude.{◌≡◌, ◌≢◌, ◌<◌, ◌+◌, ℕ, List, map, length, slice_get, Option, Some, None, IfSome, All, AllPairs, ⊤}
use Rattle.geometry.specs.declared.geometry.Geometry.{Geometry}
use Rattle.geometry.specs.declared.state.State.{State}
use Rattle.geometry.specs.declared.state.State.TheVariants.{Free, Open, Sealed, Prefree}
use Rattle.geometry.specs.declared.owner.Mark.{Mark}
use Rattle.geometry.specs.declared.shape.Shape.{Shape}
use Rattle.geometry.specs.Shape.{segment_blocks}
use Rattle.geometry.specs.Weights.{weigh}
use Rattle.rights_books.specs.Lists.{times}
use Rattle.rights_books.specs.Sameness.{same_entry}
use Rattle.rights_books.specs.declared.claim.TakenNumber.{TakenNumber}
use Rattle.sit.specs.Segment.{Segment, IsFitting, marks_of}
use Rattle.nat.specs.Shard.{ShardNodes, HasOwnNodes}
use Rattle.image.specs.declared.image.LogHead.{LogHead}
use Rattle.image.specs.Node.{Spells}
use Rattle.image_law.specs.Items.{Among}
use Rattle.image_law.specs.Parts.{SegmentState, Token, FileTree, FileLaw, Parts, Stored, stored_of, token_at, each, tickets_of, tokens_of}

-- a file's lock: its index tree, where the file lives, and the tickets and tokens that its account has
pub record Filed : Type 0 where
  pub tree : Option FileTree
  pub tickets : List Mark
  pub tokens : List TakenNumber

-- the segments, the shards of the node table, the segment that each log has open, and the files
pub record Cells : Type 0 where
  pub segments : List Segment
  pub shards : List ShardNodes
  pub logs : List (Option ℕ)
  pub files : List Filed

abbrev pub tree_in : Filed → Option FileTree
tree_in f = f.tree

-- where the log of a segment stands, while one is open in it
abbrev pub log_in : State → ℕ → Option ℕ
log_in Free next = None
log_in Open next = Some next
log_in Sealed next = None
log_in Prefree next = None

abbrev pub segment_part : Segment → SegmentState
segment_part s = record { number = s.number; mtime = s.mtime; summaries = s.summaries; marks = marks_of s; log = log_in s.state s.next }

abbrev pub token_of : TakenNumber → Token
token_of e = record { nid = e.number; inode = e.inode; address = e.address }

abbrev pub shard_part : ShardNodes → List Token
shard_part s = map token_of s.taken

abbrev pub next_in : Option Segment → ℕ
next_in None = 0
next_in (Some s) = s.next

-- the place of a log's next block, in the segment that it has open
abbrev pub place_in : List Segment → Option ℕ → Option LogHead
place_in segments None = None
place_in segments (Some n) = Some (record { segment = n; next = next_in (slice_get segments n) })

abbrev pub parts_of : Cells → Parts
parts_of cells = record {
  segments = map segment_part cells.segments;
  shards = map shard_part cells.shards;
  logs = map (place_in cells.segments) cells.logs;
  files = map tree_in cells.files;
}

-- one of these tokens is the node's, and the bytes of its block spell the node
pub record IsWrittenIn (shape : Shape) (tokens : List TakenNumber) (s : Stored) : Type 0 where
  pub token : TakenNumber
  pub lodged : 0 < times same_entry token tokens
  pub token_is : token_of token ≡ token_at s
  pub spelled : Spells shape token.bytes s.node

-- the segment of this number, under its law
pub record IsSegmentAt (geometry : Geometry) (k : ℕ) (s : Segment) : Type 0 where
  pub number : s.number ≡ k
  pub shape : s.shape ≡ geometry.shape
  pub sized : length s.summaries ≡ segment_blocks s.shape
  pub fitting : IsFitting s.state s.next s.summaries

-- the shard of this number, under its law
pub record IsShardAt (geometry : Geometry) (k : ℕ) (s : ShardNodes) : Type 0 where
  pub number : s.shard ≡ k
  pub nodes : s.nodes ≡ geometry.nodes
  pub own : HasOwnNodes s

-- a segment that is open
pub record IsOpenAt (segments : List Segment) (n : ℕ) : Type 0 where
  pub segment : Segment
  pub there : slice_get segments n ≡ Some segment
  pub state : segment.state ≡ Open

-- two logs have no segment in common
abbrev pub OpenApart : Option ℕ → Option ℕ → Type 0
OpenApart (Some m) (Some n) = m ≢ n
OpenApart (Some m) None = ⊤
OpenApart None o = ⊤

-- A file under its law: its tree is the index tree of this inode; its account has the tree's tickets and tokens, each as
-- often; and the block of each node, as its token shows it, spells the node.
pub record IsFiledAt (geometry : Geometry) (inode : ℕ) (f : Filed) : Type 0 where
  pub law : IfSome f.tree (FileLaw geometry inode)
  pub tickets : (h : Mark → ℕ) → weigh h f.tickets ≡ weigh h (each tickets_of f.tree)
  pub tokens : (h : Token → ℕ) → weigh (λ e. h (token_of e)) f.tokens ≡ weigh h (each tokens_of f.tree)
  pub written : IfSome f.tree (λ tree. (s : Stored) → Among s (stored_of tree) → IsWrittenIn geometry.shape f.tokens s)

-- What holds of all that lies in the locks: each segment, shard and file is that of its place, under its law; each log has
-- an open segment, or none, and no two have one.
pub record CellsLaw (geometry : Geometry) (cells : Cells) : Type 0 where
  pub all_segments : length cells.segments ≡ geometry.segments
  pub segments : (k : ℕ) (s : Segment) → slice_get cells.segments k ≡ Some s → IsSegmentAt geometry k s
  pub all_shards : length cells.shards ≡ 16
  pub shards : (k : ℕ) (s : ShardNodes) → slice_get cells.shards k ≡ Some s → IsShardAt geometry k s
  pub all_logs : length cells.logs ≡ 6
  pub logs : All (λ log. IfSome log (IsOpenAt cells.segments)) cells.logs
  pub apart : AllPairs OpenApart cells.logs
  pub all_files : length cells.files ≡ geometry.files
  pub files : (k : ℕ) (f : Filed) → slice_get cells.files k ≡ Some f → IsFiledAt geometry (k + 1) f
