-- The moves of a segment's state: what each asks, and what it does.
use Rattle.std.specs.Prelude.{◌≡◌}
use Rattle.geometry.specs.declared.state.State.TheVariants.{Sealed, Prefree}
use Rattle.words.specs.declared.moves.Move.{Move}
use Rattle.words.specs.declared.moves.Move.TheVariants as asked
use Rattle.words.specs.declared.moves.Moved.{Moved}
use Rattle.words.specs.declared.moves.Moved.TheVariants as told
use Rattle.words.specs.Tokens.{Post, IsOpened, IsSealed, IsRetired, IsFreed, IsKept}

-- to open and to seal want the segment's own slip, which shows its state
abbrev pub MayMove : Post → Move → Type 0
MayMove old (asked.Open slip) = (slip.table ≡ old.table) × (slip.segment ≡ old.life.segment)
MayMove old (asked.Seal slip) = (slip.table ≡ old.table) × (slip.segment ≡ old.life.segment)
MayMove old asked.Retire = old.life.state ≡ Sealed
MayMove old asked.Free = old.life.state ≡ Prefree

abbrev pub HasMoved : Post → Move → Moved → Post → Type 0
HasMoved old (asked.Open slip) told.Done new = ⊥
HasMoved old (asked.Open slip) (told.Opened s) new = IsOpened old s new
HasMoved old (asked.Open slip) (told.Freed s) new = ⊥
HasMoved old (asked.Open slip) told.Kept new = ⊥
HasMoved old (asked.Seal slip) told.Done new = IsSealed old new
HasMoved old (asked.Seal slip) (told.Opened s) new = ⊥
HasMoved old (asked.Seal slip) (told.Freed s) new = ⊥
HasMoved old (asked.Seal slip) told.Kept new = ⊥
HasMoved old asked.Retire told.Done new = IsRetired old new
HasMoved old asked.Retire (told.Opened s) new = ⊥
HasMoved old asked.Retire (told.Freed s) new = ⊥
HasMoved old asked.Retire told.Kept new = ⊥
HasMoved old asked.Free told.Done new = ⊥
HasMoved old asked.Free (told.Opened s) new = ⊥
HasMoved old asked.Free (told.Freed s) new = IsFreed old s new
HasMoved old asked.Free told.Kept new = IsKept old new

-- what a move answered has an open slip
abbrev pub HasOpenSlip : Moved → Type 0
HasOpenSlip told.Done = ⊥
HasOpenSlip (told.Opened s) = Unit {0}
HasOpenSlip (told.Freed s) = ⊥
HasOpenSlip told.Kept = ⊥

-- it has a free slip, or tells that the segment was not freed
abbrev pub IsOfFreeing : Moved → Type 0
IsOfFreeing told.Done = ⊥
IsOfFreeing (told.Opened s) = ⊥
IsOfFreeing (told.Freed s) = Unit {0}
IsOfFreeing told.Kept = Unit {0}
