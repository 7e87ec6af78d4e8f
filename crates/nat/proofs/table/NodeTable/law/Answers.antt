use Rattle.std.proofs.Common.{subst}
use Rattle.nat.specs.Taken.{AreNodes}
use Rattle.nat.specs.Table.{TableNodes}
use Rattle.nat.proofs.Tables.{are_nodes}
use Rattle.nat.proofs.table.NodeTable.law.Goals as goal

pub returns : goal.returns
returns g c =
    let t = c.self.inside in
    subst (λ (v : TableNodes). AreNodes v.nodes v.taken) c.self.view_is (are_nodes t.books.value.book t.files t.nodes t.shards.items c.self.invariant)
