use Rattle.std.proofs.Common.{◌≡◌, ◌+◌, ◌≤◌, length, vec_capacity}
use Rattle.std.specs.Vec.Iter.{into_iter_items, into_iter_len}
use Rattle.nat.proofs.Tables.{AreFresh, AreRest}
use Rattle.nat.proofs.table.NodeTable.new.Given as goal

abbrev pub invariant-loop-account : goal.invariant-loop-account
invariant-loop-account g l =
    (l.number + length (into_iter_items l.account-iterator) ≡ 16) × (into_iter_len l.account-iterator ≡ length (into_iter_items l.account-iterator))
    × AreRest l.books.book l.number (into_iter_items l.account-iterator) × AreFresh l.books.book l.nodes l.number l.shards.items × (16 ≤ vec_capacity l.shards)
