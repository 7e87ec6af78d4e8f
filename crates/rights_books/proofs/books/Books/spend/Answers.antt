use Rattle.std.proofs.Common.{◌≡◌, [], ◌∷◌, Some, None, sym, ap, ◌∙◌}
use Rattle.std.proofs.Common.{◌++◌}
use Rattle.rights_books.specs.ClaimRules.{Follows}
use Rattle.rights_books.specs.Rules.{Lawful}
use Rattle.rights_books.specs.declared.claim.Claim.TheVariants.{File}
use Rattle.rights_books.specs.Accounts.{FileView, PassView, file_view, pass_view}
use Rattle.rights_books.proofs.Steps.{spends_at}
use Rattle.rights_books.proofs.books.Books.spend.Goals as goal

pub absorb-requires-clause-rule : goal.absorb-requires-clause-rule
absorb-requires-clause-rule c =
    let v = file_view c.file.inside.holder in
    let w = pass_view c.pass.inside.holder in
    let same = ap (λ (x : FileView). x.inode) c.file.view_is ∙ (c.requires.inode ∙ sym (ap (λ (x : PassView). x.inode) c.pass.view_is)) in
    let rule : Follows (Lawful c.args.self.now.key) (c.file.inside.holder.claims ++ c.pass.inside.holder.claims) (File v.inode v.tickets v.tokens None ∷ []) (v.content ≡ Some w.content) =
    rw (c.file.invariant, c.pass.invariant) (spends_at c.args.self.now.key v.inode w.inode v.tickets v.tokens v.content w.content same) in
    rule
