-- The node address table of a volume: its 16 shards (Linux filesystems/f2fs, node address table).
use Rattle.std.specs.Prelude.{◌≡◌, ℕ, ◌≤◌, List, [], ◌∷◌, ◌++◌, length, slice_get, Some}
use Rattle.atomic_table.specs.Seated.{TableId}
use Rattle.rights_books.specs.declared.claim.TakenNumber.{TakenNumber}
use Rattle.nat.specs.Shard.{ShardNodes, HasOwnNodes}

-- a table: the books that it is of, how many files there may be, the largest node number, and the entries of the taken numbers
pub record TableNodes : Type 0 where
  pub book : TableId
  pub files : ℕ
  pub nodes : ℕ
  pub taken : List TakenNumber

-- what the shards have taken, one after another
abbrev pub all_taken : List ShardNodes → List TakenNumber
all_taken [] = []
all_taken (s ∷ shards) = s.taken ++ all_taken shards

-- the shard of a number in these books
pub record IsShardAt (book : TableId) (nodes k : ℕ) (s : ShardNodes) : Type 0 where
  pub book_is : s.book ≡ book
  pub number : s.shard ≡ k
  pub nodes_are : s.nodes ≡ nodes
  pub own : HasOwnNodes s

-- The law of a table: shards 0 to 15 in order. Each inode has a node number.
pub record IsTable (book : TableId) (files nodes : ℕ) (shards : List ShardNodes) : Type 0 where
  pub inodes : files ≤ nodes
  pub count : length shards ≡ 16
  pub each : (k : ℕ) (s : ShardNodes) → slice_get shards k ≡ Some s → IsShardAt book nodes k s
