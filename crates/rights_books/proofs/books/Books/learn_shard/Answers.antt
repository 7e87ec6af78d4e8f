use Rattle.std.proofs.Common.{◌≡◌, ap}
use Rattle.geometry.specs.Weights.{weigh}
use Rattle.rights_books.specs.Weights.{shard_copy, past}
use Rattle.rights_books.specs.Accounts.{ShardView, CensusView, shard_view, census_view}
use Rattle.rights_books.proofs.books.Books.learn_shard.Goals as goal
use Rattle.rights_books.proofs.Counting.{counts_shard}

pub exchange-requires-clause-rule : goal.exchange-requires-clause-rule
exchange-requires-clause-rule c =
    let v = census_view c.audit.inside.holder in
    let w = shard_view c.shard.inside.holder in
    let fresh : weigh (shard_copy (past w.shard)) v.copies ≡ 0 =
    rw (ap (λ (x : CensusView). x.copies) c.audit.view_is, ap (λ (x : ShardView). x.shard) c.shard.view_is) c.requires.ascending in
    rw (c.audit.invariant, c.shard.invariant) (counts_shard c.args.self.now.key w.shard w.taken v.copies fresh)
