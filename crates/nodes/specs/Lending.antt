-- What a row of slots ends as, where a `&mut` to one of them is returned.
use Rattle.std.specs.Prelude.{ℕ, Option}
use Rattle.std.specs.Borrow.{Lends, Fml, RattleType, MutBor}
use Rattle.std.specs.contracts.option.Option.{the_row as OptionOf}
use Rattle.nodes.specs.Padded.{Slots, with_slot}
use Rattle.nodes.specs.contracts.slots.Slots.{the_row}

module _ (T : RattleType) (s : MutBor (Slots T.Denot)) (at : ℕ) where
  -- once the borrow ends, the slot has what was written last
  abbrev pub lends_slot : MutBor (Option T.Denot) → Fml
  lends_slot r = Lends (the_row T) (OptionOf T) s r (with_slot s.now at)
