use Rattle.nat.proofs.Tables.{shard_home, located_is}
use Rattle.nat.proofs.table.NodeTable.locate.Goals as goal

pub locate-requires : goal.locate-requires
locate-requires g c =
    let t = c.self.inside in
    record { home = shard_home t.books.value.book t.files t.nodes t.shards.items c.self.invariant c.args.self.now c.self.view_is c.args.number c.index.result.now c.index.ensures }

pub returns : goal.returns
returns g c =
    let t = c.self.inside in
    located_is t.books.value.book t.files t.nodes t.shards.items c.self.invariant c.args.self.now c.self.view_is c.args.number c.index.result.now c.index.ensures c.locate.result c.locate.ensures
