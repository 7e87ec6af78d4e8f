use Rattle.std.proofs.Common.{◌∷◌}
use Rattle.rights_books.specs.declared.claim.Claim.TheVariants.{Segment, Hand}
use Rattle.rights_books.specs.Accounts.{segment_view, hand_view}
use Rattle.rights_books.proofs.books.Books.mark.Given as goal

abbrev pub ghosts-exchange : goal.ghosts-exchange
ghosts-exchange a =
    let v = segment_view a.one.now in
    let w = hand_view a.other.now in
    record { one = Segment v.segment (a.about.now ∷ v.marks); other = Hand (a.about.now ∷ w.tickets) w.tokens; told = Unit {0} }
