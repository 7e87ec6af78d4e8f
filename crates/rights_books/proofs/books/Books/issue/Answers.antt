use Rattle.std.proofs.Common.{◌≡◌, [], ◌∷◌, Some, None, ap, ◌∙◌}
use Rattle.std.proofs.Common.{◌++◌, take, drop, List}
use Rattle.rights_books.specs.ClaimRules.{Follows}
use Rattle.rights_books.specs.Rules.{Lawful}
use Rattle.rights_books.specs.declared.claim.Claim.{Claim}
use Rattle.rights_books.specs.declared.claim.Claim.TheVariants.{File, Pass}
use Rattle.rights_books.specs.Accounts.{FileView, file_view}
use Rattle.rights_books.proofs.Steps.{issues_at}
use Rattle.rights_books.proofs.books.Books.issue.Goals as goal

pub exchange-requires-clause-rule : goal.exchange-requires-clause-rule
exchange-requires-clause-rule g c =
    let v = file_view c.file.inside.holder in
    let u = file_view c.part-holder.new.from in
    let kept : c.part-holder.new.from.claims ≡ File v.inode v.tickets v.tokens v.content ∷ [] = c.part-holder.ensures.kept ∙ ap (λ (cs : List Claim). take 1 cs) c.file.invariant in
    let rest : c.part-holder.result.claims ≡ [] = c.part-holder.ensures.parted ∙ ap (λ (cs : List Claim). drop 1 cs) c.file.invariant in
    let none : v.content ≡ None = ap (λ (x : FileView). x.content) c.file.view_is ∙ c.requires.none in
    let rule : Follows (Lawful c.args.self.now.key) (c.part-holder.new.from.claims ++ c.part-holder.result.claims)
    (File u.inode u.tickets u.tokens (Some g.N.Noted.content) ∷ Pass u.inode g.N.Noted.content ∷ []) (Unit {0}) =
    rw (kept, rest) (issues_at c.args.self.now.key v.inode v.tickets v.tokens v.content g.N.Noted.content none) in
    rule
