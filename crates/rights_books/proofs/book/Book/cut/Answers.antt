use Rattle.std.proofs.Common.{rules}
use Rattle.rights_books.proofs.Keeping.{splits}
use Rattle.rights_books.proofs.book.Book.cut.Goals as goal

pub split_seat-cut-requires : goal.split_seat-cut-requires
split_seat-cut-requires g c =
    let from = c.take_seat-seat.result in
    (search (rules, c.requires.book), search rules, splits (g.L.Law.lawful c.self.inside.table.shared.key) from.id g.N.ClaimsThatStay.kept from.me.0)
