-- Nothing has to hold of the row of a part that has changed.
use Rattle.std.proofs.Common.{◌≡◌, Option, None, sym, ap, subst}
use Rattle.std.specs.Prelude.{IfSome}
use Rattle.rights_books.specs.declared.row_claim.Row.{Row}
use Rattle.rights_books.specs.PartRow.{PartName, PartRowView}

pub unnoted : (v : PartRowView) (part : Option PartName) (row : Row) → v ≡ record { part = part; noted = None } → IfSome v.noted (λ r. r ≡ row)
unnoted v part row is = subst (λ (o : Option Row). IfSome o (λ r. r ≡ row)) (sym (ap (λ (x : PartRowView). x.noted) is)) tt
