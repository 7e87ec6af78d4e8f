use Rattle.std.proofs.Common.{◌≡◌, ◌+◌, ◌≤◌, length, vec_len, vec_capacity}
use Rattle.std.specs.Vec.Iter.{into_iter_items, into_iter_len}
use Rattle.area_emptying.specs.Rows.{AreShards}
use Rattle.area_emptying.proofs.owned.own_shards.Given as goal

abbrev pub invariant-loop-cell : goal.invariant-loop-cell
invariant-loop-cell g l =
    (vec_len l.shards + length (into_iter_items l.cell-iterator) ≡ 16) × (into_iter_len l.cell-iterator ≡ length (into_iter_items l.cell-iterator))
    × AreShards g.V.Books.BooksName.books.book g.V.Numbers.GeometryName.geometry.nodes l.shards.items × (16 ≤ vec_capacity l.shards)
