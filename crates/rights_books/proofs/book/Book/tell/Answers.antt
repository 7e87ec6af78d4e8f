use Rattle.std.proofs.Common.{rules, ◌≡◌, ◌≢◌, ◌++◌, List, sym, ap, ◌∙◌}
use Rattle.rights_books.specs.ClaimRules.{Tells, first_view}
use Rattle.rights_books.proofs.Keeping.{tells}
use Rattle.rights_books.proofs.book.Book.tell.Goals as goal

pub agree-requires : goal.agree-requires
agree-requires g c =
    let one = c.one.inside.seat in
    let other = c.other.inside.seat in
    let v = first_view one.views in
    let w = first_view other.views in
    let lawful = g.L.Law.lawful c.self.inside.table.shared.key in
    let one_is : v ≡ c.args.one.now.claims = ap (λ h. h.claims) c.one.view_is in
    let other_is : w ≡ c.args.other.now.claims = ap (λ h. h.claims) c.other.view_is in
    let key_is : c.self.inside.table.shared.key ≡ c.args.self.now.key = ap (λ b. b.key) c.self.view_is in
    let apart : v ≢ w = rw (one_is, other_is) c.requires.apart in
    let rule : Tells lawful (v ++ w) g.M.Lesson.told = rw (one_is, other_is, key_is) c.requires.rule in
    (search rules, search rules, rw (c.one.invariant.0, c.other.invariant.0) (tells lawful one.id other.id v w g.M.Lesson.told apart rule))
