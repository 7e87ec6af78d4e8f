-- Accounts of blank rows are those of the parts in their order, and turned round they come in falling order.
use Rattle.std.proofs.Common.{◌≡◌, ℕ, ◌-◌, List, length, get_or, reverse, sym, ap, subst}
use Rattle.std.proofs.lemmas.Option.{slice_get-get_or}
use Rattle.atomic_table.specs.Seated.{TableId}
use Rattle.geometry.proofs.Indexing.{each_reverse}
use Rattle.rights_books.specs.RowAccounts.{RowView, AreBlank}
use Rattle.rights_books.specs.PartRow.{name_of, AreInOrder}
use Rattle.area.specs.Opening.{PartsFall}

pub in_order : (book : TableId) (accounts : List RowView) → AreBlank book accounts → AreInOrder book accounts
in_order book accounts blank k other low = ap name_of (blank k (get_or accounts k other) (slice_get-get_or accounts k other low))

pub parts_fall : (book : TableId) (n : ℕ) (accounts turned : List RowView) → length accounts ≡ n → AreBlank book accounts → turned ≡ reverse accounts → PartsFall book n turned
parts_fall book n accounts turned many blank is =
    subst (PartsFall book n) (sym is)
    (each_reverse (λ k v. name_of v ≡ record { book = book; number = k }) (λ k v. name_of v ≡ record { book = book; number = n - 1 - k }) accounts n many (λ k v low named. named) (in_order book accounts blank))
