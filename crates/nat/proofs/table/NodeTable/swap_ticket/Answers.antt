use Rattle.std.proofs.Common.{◌∙◌}
use Rattle.std.proofs.Common.{◌∷◌}
use Rattle.rights_books.specs.Lists.{without}
use Rattle.rights_books.specs.Sameness.{same_entry}
use Rattle.nat.proofs.Tables.{shard_book, home_of, set_table, swapped, still}
use Rattle.nat.proofs.table.NodeTable.swap_ticket.Goals as goal

pub swap-requires-clause-books : goal.swap-requires-clause-books
swap-requires-clause-books g c =
    let t = c.self.inside in
    (shard_book t.books.value.book t.files t.nodes t.shards.items c.self.invariant c.args.self.now c.self.view_is c.number.result c.index_mut.result.now c.index_mut.ensures.value ∙ c.requires.books.0, c.requires.books.1)

pub swap-requires-clause-home : goal.swap-requires-clause-home
swap-requires-clause-home g c =
    let t = c.self.inside in
    home_of t.books.value.book t.files t.nodes t.shards.items c.self.invariant c.args.self.now c.self.view_is c.number.result c.index_mut.result.now c.index_mut.ensures.value c.args.token.now.number c.number.ensures

pub invariant_of-self : goal.invariant_of-self
invariant_of-self g c =
    let t = c.self.inside in
    set_table t.books.value.book t.files t.nodes t.shards.items c.self.invariant c.args.self.now c.self.view_is c.number.result c.index_mut.result.now c.index_mut.ensures.value c.swap.new.self c.swap.ensures.own
    (still c.index_mut.result.now c.swap.new.self (c.swap.new.token ∷ without same_entry c.args.token.now c.index_mut.result.now.taken) c.swap.ensures.shard)

pub returns-clause-table : goal.returns-clause-table
returns-clause-table g c =
    let t = c.self.inside in
    swapped t.books.value.book t.files t.nodes t.shards.items c.self.invariant c.args.self.now c.self.view_is c.number.result c.index_mut.result.now c.index_mut.ensures.value c.swap.new.self c.swap.ensures.own c.args.token.now c.swap.new.token c.swap.ensures.taken c.swap.ensures.shard
