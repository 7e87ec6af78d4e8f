-- A log that begins to fill the holes of a segment.
use Rattle.std.specs.Prelude.{ℕ, List, true}
use Rattle.geometry.specs.declared.owner.Owner.{Owner}
use Rattle.tickets.specs.Placed.{Placed}
use Rattle.sit.specs.Registered.{Registered}
use Rattle.sit.specs.Threaded.{HasThreaded, HasFilled}

-- it has begun, and has filled the first hole, in one hold of the segment's lock
pub record HasBegunIn (log : ℕ) (owner : Owner) (now : ℕ) (bytes : List ℕ) (old new : Registered) (ticket : Placed) : Type 0 where
  pub between : Registered
  pub threaded : HasThreaded true log old between
  pub filled : HasFilled log owner now bytes between new ticket
