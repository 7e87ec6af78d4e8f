use Rattle.std.proofs.Common.{◌<◌}
use Rattle.rights_books.specs.Lists.{times, without}
use Rattle.rights_books.specs.Sameness.{same_entry}
use Rattle.rights_books.specs.Rules.{with_lodged}
use Rattle.rights_books.specs.declared.claim.Claim.TheVariants.{Hand, Shard}
use Rattle.rights_books.specs.Accounts.{hand_view, shard_view}
use Rattle.rights_books.proofs.books.Books.give.Given as goal

abbrev pub ghosts-exchange : goal.ghosts-exchange
ghosts-exchange a =
    let v = shard_view a.one.now in
    let w = hand_view a.other.now in
    record { one = Shard v.shard (without same_entry a.about.now v.taken); other = Hand (with_lodged a.about.now w.tickets) (without same_entry a.about.now w.tokens); told = 0 < times same_entry a.about.now v.taken }
