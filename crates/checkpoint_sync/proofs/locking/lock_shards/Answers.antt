use Rattle.std.proofs.Common.{◌≡◌, ℕ, ◌+◌, length, arith}
use Rattle.std.specs.Prelude.{Some}
use Rattle.atomic_table.specs.Seated.{TableId}
use Rattle.rights_books.specs.PartRow.{PartName}
use Rattle.nat.specs.Shard.{ShardNodes}
use Rattle.nat.specs.Table.{IsShardAt}
use Rattle.checkpoint_sync.proofs.Turns.{push_more}
use Rattle.checkpoint_sync.proofs.locking.lock_shards.Goals as goal

abbrev part_of : TableId → ℕ → PartName
part_of rows number = record { book = rows; number = number }

-- a shard of this part of the rows
abbrev IsPart : TableId → ℕ → ℕ → ShardNodes → Type 0
IsPart rows first k s = s.part ≡ Some (part_of rows (first + k))

pub loop-number-preserved : goal.loop-number-preserved
loop-number-preserved g c =
    let old = c.loop-number.shards.items in
    let count = c.loop-number.invariant.count in
    let long = c.loop-number.shards.ok in
    let as_long : length old ≡ c.loop-number.number = omega arith in
    record {
      count = (let more = c.push_reserved.ensures.len in omega arith);
      room = (let same = c.push_reserved.ensures.capacity in let room = c.loop-number.invariant.room in omega arith);
      are = push_more (IsShardAt g.V.Books.BooksName.books.book g.V.Numbers.GeometryName.geometry.nodes) old c.push_reserved.new.self.items c.lock.result c.loop-number.number
          c.push_reserved.ensures.items as_long c.loop-number.invariant.are c.lock.ensures.held;
      parts = push_more (IsPart g.V.Books.BooksName.rows g.V.Numbers.GeometryName.geometry.segments) old c.push_reserved.new.self.items c.lock.result c.loop-number.number c.push_reserved.ensures.items as_long c.loop-number.invariant.parts c.lock.ensures.part;
    }
