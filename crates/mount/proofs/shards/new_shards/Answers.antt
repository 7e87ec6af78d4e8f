-- The accounts come in the order of their shards, so the next one's number is that of shards made: each new shard is
-- the one of its place, and has taken nothing.
use Rattle.std.proofs.Common.{◌≡◌, [], length, ap, sym, subst, ◌∙◌, arith, rules}
use Rattle.std.specs.Vec.Iter.{into_iter_items}
use Rattle.rights_books.specs.Accounts.{ShardView}
use Rattle.nat.specs.Shard.{ShardNodes}
use Rattle.nat.specs.Table.{IsShardAt}
use Rattle.nat.proofs.Tables.{first_rest, next_rest}
use Rattle.geometry.proofs.Indexing.{each_push}
use Rattle.mount.proofs.shards.new_shards.Goals as goal

pub new-requires-clause-empty : goal.new-requires-clause-empty
new-requires-clause-empty g c =
    let at = c.accounts in
    let e = first_rest c.args.books.now.book at.number (into_iter_items at.account-iterator) (into_iter_items c.next.new.self) c.in-Some.account c.in-Some.ensures.steps.0 at.invariant.2 in
    e ∙ sym (ap (λ b. (let a : ShardView = record { book = b; shard = at.number; taken = [] } in a)) (ap (λ v. v.book) e))

pub accounts-preserved : goal.accounts-preserved
accounts-preserved g c =
    let at = c.accounts in
    let x = c.in-Some.account in
    let steps = c.in-Some.ensures.steps in
    let short = ap (λ l. length l) steps.0 in
    let gone = steps.1 in
    let i = at.invariant in
    let book = c.args.books.now.book in
    let e = first_rest book at.number (into_iter_items at.account-iterator) (into_iter_items c.next.new.self) x steps.0 i.2 in
    let made = c.in_ok-shard.ensures.shard in
    let count : length at.shards.items ≡ at.number = let long = at.shards.ok.0 in let many = i.3 in omega arith in
    let here : IsShardAt book c.args.nodes at.number c.in_ok-shard.shard = record {
      book_is = ap (λ (s : ShardNodes). s.book) made ∙ ap (λ (v : ShardView). v.book) e;
      number = ap (λ (s : ShardNodes). s.shard) made;
      nodes_are = ap (λ (s : ShardNodes). s.nodes) made;
      own = c.in_ok-shard.ensures.own;
    } in (
      omega arith,
      omega arith,
      next_rest book at.number (into_iter_items at.account-iterator) (into_iter_items c.next.new.self) x steps.0 i.2,
      search rules,
      (let room = c.push_reserved.ensures.capacity in omega (arith, i.4)),
      rw c.push_reserved.ensures.items (each_push (λ k (s : ShardNodes). IsShardAt book c.args.nodes k s × (s.taken ≡ [])) at.shards.items c.in_ok-shard.shard i.5
          (subst (λ k. IsShardAt book c.args.nodes k c.in_ok-shard.shard × (c.in_ok-shard.shard.taken ≡ [])) (sym count) (here, ap (λ (s : ShardNodes). s.taken) made))),
    )
