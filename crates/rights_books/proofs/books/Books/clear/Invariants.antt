use Rattle.std.proofs.Common.{◌<◌}
use Rattle.rights_books.specs.Lists.{times, without}
use Rattle.geometry.specs.Mark.{same_mark}
use Rattle.rights_books.specs.declared.claim.Claim.TheVariants.{Segment, Hand}
use Rattle.rights_books.specs.Accounts.{segment_view, hand_view}
use Rattle.rights_books.proofs.books.Books.clear.Given as goal

abbrev pub ghosts-exchange : goal.ghosts-exchange
ghosts-exchange a =
    let v = segment_view a.one.now in
    let w = hand_view a.other.now in
    record { one = Segment v.segment (without same_mark a.about.now v.marks); other = Hand (without same_mark a.about.now w.tickets) w.tokens; told = 0 < times same_mark a.about.now v.marks }
