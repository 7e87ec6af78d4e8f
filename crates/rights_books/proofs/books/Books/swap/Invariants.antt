use Rattle.std.proofs.Common.{◌<◌, ◌∷◌}
use Rattle.geometry.specs.Mark.{same_mark}
use Rattle.rights_books.specs.Lists.{times, without}
use Rattle.rights_books.specs.Sameness.{same_entry}
use Rattle.rights_books.specs.Rules.{moved_to, with_lodged}
use Rattle.rights_books.specs.Weights.{mark_of}
use Rattle.rights_books.specs.declared.claim.Claim.TheVariants.{Hand, Shard}
use Rattle.rights_books.specs.Accounts.{hand_view, shard_view}
use Rattle.rights_books.proofs.books.Books.swap.Given as goal

abbrev pub ghosts-exchange : goal.ghosts-exchange
ghosts-exchange g a =
    let v = shard_view a.one.now in
    let w = hand_view a.other.now in
    let old = a.about.now.0.value in
    let new = moved_to a.about.now.1 g.N.NewBytes.bytes old in
    record {
      one = Shard v.shard (new ∷ without same_entry old v.taken);
      other = Hand (with_lodged old (without same_mark (mark_of new) w.tickets)) (new ∷ without same_entry old w.tokens);
      told = (0 < times same_entry old v.taken) × (0 < a.about.now.1);
    }
