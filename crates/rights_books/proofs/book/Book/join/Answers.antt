use Rattle.std.proofs.Common.{rules}
use Rattle.rights_books.proofs.Keeping.{joins}
use Rattle.rights_books.proofs.book.Book.join.Goals as goal

pub join_seat-requires : goal.join_seat-requires
join_seat-requires g c =
    let to = c.take_seat-seat.result in
    let from = c.take_seat.result in
    (search rules, search rules, search rules, search rules, joins (g.L.Law.lawful c.self.inside.table.shared.key) to.id from.id to.me.0 from.me.0)
