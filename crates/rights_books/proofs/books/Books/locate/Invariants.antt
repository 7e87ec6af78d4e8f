use Rattle.std.proofs.Common.{◌<◌, ◌-◌, ◌/◌, []}
use Rattle.rights_books.specs.declared.claim.Claim.TheVariants.{Hand}
use Rattle.rights_books.specs.Accounts.{hand_view}
use Rattle.rights_books.proofs.books.Books.locate.Given as goal

abbrev pub ghosts-look : goal.ghosts-look
ghosts-look a =
    let w = hand_view a.one.now in
    let m = a._about.now in
    record { one = Hand w.tickets w.tokens; other = Hand [] []; told = (0 < m.address) × ((m.address - 1) / a.self.now.key.blocks < a.self.now.key.segments) }
