use Rattle.std.proofs.Common.{◌∙◌, arith}
use Rattle.nat.proofs.Tables.{shard_book, shard_home, shard_nodes, before_is, set_table, took, still_of}
use Rattle.nat.proofs.table.NodeTable.take.Goals as goal

pub take-requires-clause-books : goal.take-requires-clause-books
take-requires-clause-books g c =
    let t = c.self.inside in
    (shard_book t.books.value.book t.files t.nodes t.shards.items c.self.invariant c.args.self.now c.self.view_is c.args.number c.index_mut.result.now c.index_mut.ensures.value ∙ c.requires.books.0, c.requires.books.1)

pub take-requires-clause-home : goal.take-requires-clause-home
take-requires-clause-home g c =
    let t = c.self.inside in
    shard_home t.books.value.book t.files t.nodes t.shards.items c.self.invariant c.args.self.now c.self.view_is c.args.number c.index_mut.result.now c.index_mut.ensures.value

pub take-requires-clause-range : goal.take-requires-clause-range
take-requires-clause-range g c =
    let t = c.self.inside in
    let n = shard_nodes t.books.value.book t.files t.nodes t.shards.items c.self.invariant c.args.self.now c.self.view_is c.args.number c.index_mut.result.now c.index_mut.ensures.value in
    let r = c.requires.range in (r.0, omega arith)

pub invariant_of-self : goal.invariant_of-self
invariant_of-self g c =
    let t = c.self.inside in
    set_table t.books.value.book t.files t.nodes t.shards.items c.self.invariant c.args.self.now c.self.view_is c.args.number c.index_mut.result.now c.index_mut.ensures.value c.take.new.self c.take.ensures.own
    (still_of c.index_mut.result.now c.take.new.self c.take.result c.take.ensures.shard)

pub returns-clause-before : goal.returns-clause-before
returns-clause-before g c =
    let t = c.self.inside in
    before_is t.books.value.book t.files t.nodes t.shards.items c.self.invariant c.args.self.now c.self.view_is c.args.number c.index_mut.result.now c.index_mut.ensures.value c.take.result c.take.ensures.before

pub returns-clause-table : goal.returns-clause-table
returns-clause-table g c =
    let t = c.self.inside in
    took t.books.value.book t.files t.nodes t.shards.items c.self.invariant c.args.self.now c.self.view_is c.args.number c.index_mut.result.now c.index_mut.ensures.value c.take.new.self c.take.ensures.own c.take.result c.take.ensures.shard
