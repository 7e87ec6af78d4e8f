use Rattle.std.proofs.Common.{List, sym, ap, subst}
use Rattle.rights_books.specs.Rules.{IsComplete}
use Rattle.rights_books.specs.declared.claim.Copied.{Copied}
use Rattle.rights_books.specs.ClaimRules.{Ruled}
use Rattle.rights_books.specs.declared.claim.Layout.{Layout}
use Rattle.rights_books.specs.Accounts.{CensusView, census_view}
use Rattle.rights_books.proofs.books.Books.settle.Goals as goal
use Rattle.rights_books.proofs.Counting.{settles}

pub step-requires-clause-rule : goal.step-requires-clause-rule
step-requires-clause-rule c =
    let v = census_view c.audit.inside.holder in
    let complete : IsComplete c.self.inside.book.key v.copies =
    subst (λ (z : Layout × List Copied). IsComplete z.0 z.1) (λ i. (sym (ap (λ (x : Ruled Layout). x.key) c.self.view_is) i, sym (ap (λ (x : CensusView). x.copies) c.audit.view_is) i)) c.requires.complete in
    rw c.audit.invariant (settles c.self.inside.book.key v.copies complete)
