use Rattle.std.proofs.Common.{◌∙◌}
use Rattle.rights_books.specs.Lists.{without}
use Rattle.rights_books.specs.Sameness.{same_entry}
use Rattle.nat.proofs.Tables.{shard_book, home_of, set_table, gave, still}
use Rattle.nat.proofs.table.NodeTable.give.Goals as goal

pub give-requires-clause-books : goal.give-requires-clause-books
give-requires-clause-books g c =
    let t = c.self.inside in
    (shard_book t.books.value.book t.files t.nodes t.shards.items c.self.invariant c.args.self.now c.self.view_is c.number.result c.index_mut.result.now c.index_mut.ensures.value ∙ c.requires.books.0, c.requires.books.1)

pub give-requires-clause-home : goal.give-requires-clause-home
give-requires-clause-home g c =
    let t = c.self.inside in
    home_of t.books.value.book t.files t.nodes t.shards.items c.self.invariant c.args.self.now c.self.view_is c.number.result c.index_mut.result.now c.index_mut.ensures.value c.args.token.number c.number.ensures

pub invariant_of-self : goal.invariant_of-self
invariant_of-self g c =
    let t = c.self.inside in
    set_table t.books.value.book t.files t.nodes t.shards.items c.self.invariant c.args.self.now c.self.view_is c.number.result c.index_mut.result.now c.index_mut.ensures.value c.give.new.self c.give.ensures.own
    (still c.index_mut.result.now c.give.new.self (without same_entry c.args.token c.index_mut.result.now.taken) c.give.ensures.shard)

pub returns-clause-table : goal.returns-clause-table
returns-clause-table g c =
    let t = c.self.inside in
    gave t.books.value.book t.files t.nodes t.shards.items c.self.invariant c.args.self.now c.self.view_is c.number.result c.index_mut.result.now c.index_mut.ensures.value c.give.new.self c.give.ensures.own c.args.token c.give.ensures.taken c.give.ensures.shard
