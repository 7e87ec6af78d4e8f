-- What stands ready for the files of a lawful image: the tickets of data blocks and the tokens of nodes (Linux
-- filesystems/f2fs, node address table).
use Rattle.std.specs.Prelude.{◌≡◌, ℕ, ◌+◌, ◌==◌, ◌<◌, if◌then◌else◌, List, length, Option, Some, None, slice_index_or}
use Rattle.atomic_table.specs.Seated.{TableId}
use Rattle.geometry.specs.declared.geometry.Geometry.{Geometry}
use Rattle.geometry.specs.declared.owner.Owner.{Owner}
use Rattle.geometry.specs.declared.owner.Owner.TheVariants.{Node, Data}
use Rattle.geometry.specs.Area.{block_count}
use Rattle.rights_books.specs.declared.claim.TakenNumber.{TakenNumber}
use Rattle.image.specs.Image.{Image, entry_of}
use Rattle.tickets.specs.Placed.{Placed}
use Rattle.mount_blocks.specs.Marked.{marked_owner}
use Rattle.mount_blocks.specs.Table.{ticket_of}
use Rattle.nat.specs.Shard.{ShardNodes}
use Rattle.nat.specs.Table.{IsShardAt}

-- the ticket of a data block
abbrev pub data_ticket : Option Owner → ℕ → List ℕ → Option Placed
data_ticket None address bytes = None
data_ticket (Some (Node n)) address bytes = None
data_ticket (Some (Data n s)) address bytes = ticket_of (Some (Data n s)) address bytes

-- the token of a number that has an entry: it shows the entry, and the bytes of the node's block
abbrev pub node_token : Image → (ℕ → List ℕ) → ℕ → Option TakenNumber
node_token image bytes number =
    let entry = entry_of image number in
    if entry.address == 0 then None
    else Some (record { number = number; inode = entry.inode; address = entry.address; bytes = bytes entry.address })

-- A place for each address and one for each number, and one for 0 of both: the tickets of the data blocks that the image
-- marks, and the tokens of its nodes.
pub record AreGoods (geometry : Geometry) (image : Image) (bytes : ℕ → List ℕ) (tickets : List (Option Placed)) (tokens : List (Option TakenNumber)) : Type 0 where
  pub places : length tickets ≡ block_count geometry + 1
  pub numbers : length tokens ≡ geometry.nodes + 1
  pub blocks : (address : ℕ) → slice_index_or tickets address None ≡ data_ticket (marked_owner geometry image address) address (bytes address)
  pub nodes : (number : ℕ) → slice_index_or tokens number None ≡ node_token image bytes number

-- the 16 shards of these books, in order
pub record AreShards (book : TableId) (nodes : ℕ) (shards : List ShardNodes) : Type 0 where
  pub sixteen : length shards ≡ 16
  pub each : (k : ℕ) (other : ShardNodes) → k < length shards → IsShardAt book nodes k (slice_index_or shards k other)
