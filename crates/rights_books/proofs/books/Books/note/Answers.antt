use Rattle.std.proofs.Common.{◌≡◌, [], ◌∷◌, Some, sym, ap, ◌∙◌}
use Rattle.std.proofs.Common.{◌++◌}
use Rattle.rights_books.specs.ClaimRules.{Follows}
use Rattle.rights_books.specs.Rules.{Lawful}
use Rattle.rights_books.specs.declared.claim.Claim.TheVariants.{File, Pass}
use Rattle.rights_books.specs.Accounts.{FileView, PassView, file_view, pass_view}
use Rattle.rights_books.proofs.Steps.{notes_at}
use Rattle.rights_books.proofs.books.Books.note.Goals as goal

pub exchange-requires-clause-rule : goal.exchange-requires-clause-rule
exchange-requires-clause-rule g c =
    let v = file_view c.file.inside.holder in
    let w = pass_view c.pass.inside.holder in
    let same = ap (λ (x : FileView). x.inode) c.file.view_is ∙ (c.requires.inode ∙ sym (ap (λ (x : PassView). x.inode) c.pass.view_is)) in
    let rule : Follows (Lawful c.args.self.now.key) (c.file.inside.holder.claims ++ c.pass.inside.holder.claims)
    (File v.inode v.tickets v.tokens (Some g.N.Noted.content) ∷ Pass w.inode g.N.Noted.content ∷ []) (v.content ≡ Some w.content) =
    rw (c.file.invariant, c.pass.invariant) (notes_at c.args.self.now.key v.inode w.inode v.tickets v.tokens v.content w.content g.N.Noted.content same) in
    rule
