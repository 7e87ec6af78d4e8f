use Rattle.std.proofs.Common.{◌≡◌, ◌+◌, ◌≤◌, [], length, vec_len, vec_capacity}
use Rattle.std.specs.Vec.Iter.{into_iter_items, into_iter_len}
use Rattle.nat.specs.Shard.{ShardNodes}
use Rattle.nat.specs.Table.{IsShardAt}
use Rattle.nat.proofs.Tables.{AreRest}
use Rattle.geometry.proofs.Indexing.{EachAt}
use Rattle.mount.proofs.shards.new_shards.Given as goal

abbrev pub invariant-accounts : goal.invariant-accounts
invariant-accounts g l =
    (l.number + length (into_iter_items l.account-iterator) ≡ 16) × (into_iter_len l.account-iterator ≡ length (into_iter_items l.account-iterator))
    × AreRest l.books.book l.number (into_iter_items l.account-iterator) × (vec_len l.shards ≡ l.number) × (16 ≤ vec_capacity l.shards)
    × EachAt (λ k (s : ShardNodes). IsShardAt l.books.book l.nodes k s × (s.taken ≡ [])) l.shards.items
