use Rattle.std.proofs.Common.{◌∷◌}
use Rattle.rights_books.specs.declared.claim.Claim.TheVariants.{Hand, Shard}
use Rattle.rights_books.specs.Rules.{bare_entry}
use Rattle.rights_books.specs.Accounts.{hand_view, shard_view}
use Rattle.rights_books.proofs.books.Books.take.Given as goal

abbrev pub ghosts-exchange : goal.ghosts-exchange
ghosts-exchange a =
    let v = shard_view a.one.now in
    let w = hand_view a.other.now in
    record { one = Shard v.shard (bare_entry a.about.now.0 a.about.now.1 ∷ v.taken); other = Hand w.tickets (bare_entry a.about.now.0 a.about.now.1 ∷ w.tokens); told = Unit {0} }
