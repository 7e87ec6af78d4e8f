use Rattle.std.proofs.Common.{length, ap, sym, subst, ◌∙◌, arith, rules}
use Rattle.nat.specs.Shard.{ShardNodes}
use Rattle.nat.specs.Table.{IsShardAt}
use Rattle.area_emptying.specs.Rows.{AreShards}
use Rattle.area_emptying.proofs.Nothing.{each_got}
use Rattle.area_emptying.proofs.owned.own_shards.Goals as goal

pub loop-cell-preserved : goal.loop-cell-preserved
loop-cell-preserved g c =
    let book = g.V.Books.BooksName.books.book in
    let nodes = g.V.Numbers.GeometryName.geometry.nodes in
    let at = c.loop-cell in
    let i = at.invariant in
    let short = ap (λ l. length l) c.in-Some.ensures.steps.0 in
    let gone = c.in-Some.ensures.steps.1 in
    let more = c.push_reserved.ensures.len in
    let old = at.shards.ok.0 in
    let number = c.len-number.ensures in
    let here = subst (λ n. IsShardAt book nodes n c.own_shard.result) (number ∙ old) c.own_shard.ensures in (
      omega arith,
      omega arith,
      subst (AreShards book nodes) (sym c.push_reserved.ensures.items) (each_got (IsShardAt book nodes) at.shards.items c.own_shard.result i.2 here),
      (let room = c.push_reserved.ensures.capacity in omega (arith, i.3)),
    )
