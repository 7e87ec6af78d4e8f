-- One of the 16 shards of a node address table: shard k has the numbers that leave k by 16.
use Rattle.std.specs.Prelude.{◌≡◌, ℕ, ◌<◌, ◌≤◌, ◌+◌, ◌*◌, ◌%◌, List, length, Option, None, slice_index_or}
use Rattle.atomic_table.specs.Seated.{TableId}
use Rattle.geometry.specs.Weights.{SameItems}
use Rattle.rights_books.specs.declared.claim.TakenNumber.{TakenNumber}
use Rattle.rights_books.specs.Accounts.{ShardView}
use Rattle.rights_books.specs.PartRow.{PartName}
use Rattle.nat.specs.Taken.{AreNodes, entries_of}
use Rattle.nat.specs.Slots.{SlotView, entries_from}

-- a shard: the books that it is of, its number, the largest node number of the volume, the entries of its taken numbers, and which part its row is of, where it has an account of it
pub record ShardNodes : Type 0 where
  pub book : TableId
  pub shard : ℕ
  pub nodes : ℕ
  pub taken : List TakenNumber
  pub part : Option PartName

-- The law of a shard: its account has taken what its slots hold, and there is a slot for each of its numbers up to `nodes`.
pub record IsShard (nodes k : ℕ) (slots : List (Option SlotView)) (account : ShardView) : Type 0 where
  pub is_one : k < 16
  pub number : account.shard ≡ k
  pub within : (j : ℕ) → j < length slots → j * 16 + k ≤ nodes
  pub enough : (j : ℕ) → j * 16 + k ≤ nodes → j < length slots
  -- there is no node 0
  pub zero_is_free : k ≡ 0 → slice_index_or slots 0 None ≡ None
  pub taken : SameItems account.taken (entries_from k 0 slots)

-- its entries: each is of a number of its own, and no two are of one
pub record HasOwnNodes (s : ShardNodes) : Type 0 where
  pub nodes : AreNodes s.nodes s.taken
  pub home : (number : ℕ) → 0 < entries_of number s.taken → number % 16 ≡ s.shard
