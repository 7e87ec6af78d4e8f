use Rattle.std.proofs.Common.{◌≡◌, ◌+◌, ◌≤◌, length, vec_len, vec_capacity}
use Rattle.std.specs.Vec.Iter.{into_iter_items, into_iter_len}
use Rattle.area.specs.Opening.{PartsFall}
use Rattle.nat.specs.Table.{IsShardAt}
use Rattle.mount.proofs.Rest.{EachFrom}
use Rattle.mount.proofs.mounted_area.lock_loaded_shards.Given as goal

abbrev pub invariant-shards : goal.invariant-shards
invariant-shards g l =
    (vec_len l.cells + length (into_iter_items l.shard-iterator) ≡ 16) × (into_iter_len l.shard-iterator ≡ length (into_iter_items l.shard-iterator))
    × EachFrom (IsShardAt g.V.Books.BooksName.books.book g.V.Numbers.GeometryName.geometry.nodes) (vec_len l.cells) (into_iter_items l.shard-iterator)
    × (16 ≤ vec_capacity l.cells) × PartsFall g.V.Books.BooksName.rows (g.V.Numbers.GeometryName.geometry.segments + 16) l.rows.items × (vec_len l.rows + vec_len l.cells ≡ 16)
