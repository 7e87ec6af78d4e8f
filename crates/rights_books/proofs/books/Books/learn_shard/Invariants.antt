use Rattle.std.proofs.Common.{◌∷◌}
use Rattle.rights_books.specs.declared.claim.Copied.TheVariants.{ShardCopy}
use Rattle.rights_books.specs.declared.claim.Claim.TheVariants.{Shard, Census}
use Rattle.rights_books.specs.Accounts.{shard_view, census_view}
use Rattle.rights_books.proofs.books.Books.learn_shard.Given as goal

abbrev pub ghosts-exchange : goal.ghosts-exchange
ghosts-exchange a =
    let v = census_view a.one.now in
    let w = shard_view a.other.now in
    record { one = Census (ShardCopy w.shard w.taken ∷ v.copies); other = Shard w.shard w.taken; told = Unit {0} }
