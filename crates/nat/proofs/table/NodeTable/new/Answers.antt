-- The accounts come in the order of their shards, so the next one's number is that of shards made; sixteen shards with
-- nothing taken are a table with nothing taken.
use Rattle.std.proofs.Common.{◌≡◌, [], None, length, ap, sym, ◌∙◌, subst, arith}
use Rattle.std.specs.Vec.Iter.{into_iter_items}
use Rattle.nat.specs.Shard.{ShardNodes}
use Rattle.nat.specs.Table.{IsTable}
use Rattle.nat.proofs.Tables.{first_empty, first_rest, next_rest, push_fresh, fresh_table, fresh_none}
use Rattle.nat.proofs.table.NodeTable.new.Goals as goal

pub new-requires-clause-empty : goal.new-requires-clause-empty
new-requires-clause-empty g c =
    let at = c.loop-account in
    first_empty c.args.books.now.book at.number (into_iter_items at.account-iterator) (into_iter_items c.next.new.self) c.in-Some.account c.in-Some.ensures.steps.0 at.invariant.2

pub loop-account-preserved : goal.loop-account-preserved
loop-account-preserved g c =
    let at = c.loop-account in
    let steps = c.in-Some.ensures.steps in
    let short = ap (λ l. length l) steps.0 in
    let gone = steps.1 in
    let e = first_rest c.args.books.now.book at.number (into_iter_items at.account-iterator) (into_iter_items c.next.new.self) c.in-Some.account steps.0 at.invariant.2 in
    let i = at.invariant in (
      omega arith,
      omega arith,
      next_rest c.args.books.now.book at.number (into_iter_items at.account-iterator) (into_iter_items c.next.new.self) c.in-Some.account steps.0 i.2,
      push_fresh c.args.books.now.book c.args.nodes at.number at.shards.items c.push_reserved.new.self.items c.in_ok-new.field-0 i.3
          (c.in_ok-new.ensures.shard ∙ ap (λ b. (let s : ShardNodes = record { book = b; shard = at.number; nodes = c.args.nodes; taken = []; part = None } in s)) (ap (λ v. v.book) e)) c.in_ok-new.ensures.own c.push_reserved.ensures.items,
      (let room = c.push_reserved.ensures.capacity in omega (arith, i.4)),
    )

pub invariant_of-result : goal.invariant_of-result
invariant_of-result g c =
    let at = c.loop-account in
    let i = at.invariant in
    let none = c.in-None.ensures.steps.0 in
    let all : at.number ≡ 16 = omega (arith, i.0, i.1) in
    subst (λ b. IsTable b c.args.files c.args.nodes at.shards.items) (sym (ap (λ b. b.book) c.of.ensures))
    (fresh_table c.args.books.now.book c.args.files c.args.nodes at.number at.shards.items c.requires.inodes all i.3)

pub returns-clause-table : goal.returns-clause-table
returns-clause-table g c =
    let at = c.loop-account in
    let none = fresh_none c.args.books.now.book c.args.nodes at.number at.shards.items at.invariant.3 in
    let book : c.of.result.value.book ≡ c.args.books.now.book = ap (λ b. b.book) c.of.ensures in
    λ j. record { book = book j; files = c.args.files; nodes = c.args.nodes; taken = none j }
