use Rattle.std.proofs.Common.{rules, ◌≡◌, ◌+◌, ◌%◌, ◌^◌, List, sym, ap, ◌∙◌}
use Rattle.rights_books.specs.ClaimRules.{Follows, first_view}
use Rattle.rights_books.proofs.Keeping.{allows}
use Rattle.rights_books.proofs.book.Book.step.Goals as goal

pub fetch_add-requires : goal.fetch_add-requires
fetch_add-requires g c =
    let mine = c.take_seat-seat.result in
    let book = c.self.inside.table.shared in
    let key_is : book.key ≡ c.args.self.now.key = ap (λ b. b.key) c.self.view_is in
    let claims_is : mine.me.0 ≡ c.args.holder.now.claims = ap first_view (sym c.take_seat-seat.ensures.view.0) ∙ ap (λ h. h.claims) c.holder.view_is in
    let rule : Follows (g.L.Law.lawful book.key) mine.me.0 g.M.Change.after g.M.Change.told = rw (key_is, claims_is) c.requires.rule in
    (search rules, search rules, allows (g.L.Law.lawful book.key) book.table_id.slots mine.id c.holder.inside.word (λ n. (n + 1) % 2 ^ 64) mine.me g.M.Change.after g.M.Change.told rule)
