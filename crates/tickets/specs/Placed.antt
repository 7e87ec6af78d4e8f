-- What contracts see of a ticket: the valid block and who names it, and its bytes.
use Rattle.std.specs.Prelude.{ℕ, List}
use Rattle.geometry.specs.declared.owner.Mark.{Mark}

pub record Placed : Type 0 where
  pub mark : Mark
  pub content : List ℕ
