use Rattle.std.proofs.Common.{◌≡◌, ◌≤◌, vec_len, vec_capacity}
use Rattle.checkpoint_sync.specs.LocksHeld.{AreHeldShards}
use Rattle.checkpoint_image.specs.Kept.{AreShardParts}
use Rattle.checkpoint_sync.proofs.locking.lock_shards.Given as goal

abbrev pub invariant-loop-number : goal.invariant-loop-number
invariant-loop-number g l = record {
  count : vec_len l.shards ≡ l.number;
  room : 16 ≤ vec_capacity l.shards;
  are : AreHeldShards g.V.Books.BooksName.books.book g.V.Numbers.GeometryName.geometry.nodes l.shards.items;
  parts : AreShardParts g.V.Books.BooksName.rows g.V.Numbers.GeometryName.geometry.segments l.shards.items;
}
