use Rattle.std.proofs.Common.{◌≡◌, ◌<◌, ◌%◌, length, sym, ap, subst, ◌∙◌, arith}
use Rattle.nat.specs.Shard.{ShardNodes}
use Rattle.nat.specs.Table.{IsShardAt}
use Rattle.checkpoint_image.proofs.Turning.{got}
use Rattle.area_emptying.proofs.Nothing.{each_reset}
use Rattle.area_emptying.proofs.owned_area.OwnedArea.give.Goals as goal

pub give-requires-clause-books : goal.give-requires-clause-books
give-requires-clause-books g c =
    let every = c.args.self.now.every_shard in
    let long = c.args.self.now.shards.ok.0 in
    let at : c.number.result % 16 < length c.args.self.now.shards.items = omega arith in
    let is = c.args.self.now.shards_are (c.number.result % 16) c.index_mut-shard.result.now (got c.args.self.now.shards.items (c.number.result % 16) c.index_mut-shard.result.now at c.index_mut-shard.ensures.value) in
    let book = sym (ap (λ b. b.book) c.books.ensures) in (is.book_is ∙ book, c.requires.book ∙ book)

pub give-requires-clause-home : goal.give-requires-clause-home
give-requires-clause-home g c =
    let every = c.args.self.now.every_shard in
    let long = c.args.self.now.shards.ok.0 in
    let at : c.number.result % 16 < length c.args.self.now.shards.items = omega arith in
    let is = c.args.self.now.shards_are (c.number.result % 16) c.index_mut-shard.result.now (got c.args.self.now.shards.items (c.number.result % 16) c.index_mut-shard.result.now at c.index_mut-shard.ensures.value) in
    sym (is.number ∙ ap (λ n. n % 16) c.number.ensures)

pub invariant_of-self-clause-shards_are : goal.invariant_of-self-clause-shards_are
invariant_of-self-clause-shards_are g c =
    let every = c.args.self.now.every_shard in
    let long = c.args.self.now.shards.ok.0 in
    let at : c.number.result % 16 < length c.args.self.now.shards.items = omega arith in
    let is = c.args.self.now.shards_are (c.number.result % 16) c.index_mut-shard.result.now (got c.args.self.now.shards.items (c.number.result % 16) c.index_mut-shard.result.now at c.index_mut-shard.ensures.value) in
    let gave = c.give.ensures.shard in
    each_reset (IsShardAt g.V.Books.BooksName.books.book g.V.Numbers.GeometryName.geometry.nodes) c.args.self.now.shards.items (c.number.result % 16) c.give.new.self c.args.self.now.shards_are (record {
      book_is = ap (λ (s : ShardNodes). s.book) gave ∙ is.book_is;
      number = ap (λ (s : ShardNodes). s.shard) gave ∙ is.number;
      nodes_are = ap (λ (s : ShardNodes). s.nodes) gave ∙ is.nodes_are;
      own = c.give.ensures.own;
    })
