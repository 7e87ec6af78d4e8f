use Rattle.std.proofs.Common.{◌≡◌, ap, ◌∙◌}
use Rattle.rights_books.specs.Accounts.{PermitsView, hands_claims}
use Rattle.rights_books.proofs.books.Books.audit.Goals as goal
use Rattle.rights_books.proofs.Counting.{gathers}

pub step-requires-clause-rule : goal.step-requires-clause-rule
step-requires-clause-rule c =
    let all : c.permits.inside.holder.claims ≡ hands_claims 64 = c.permits.invariant.1 ∙ ap hands_claims (ap (λ (x : PermitsView). x.count) c.permits.view_is ∙ c.requires.all) in
    rw all (gathers c.self.inside.book.key)
