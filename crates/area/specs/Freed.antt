-- What becomes of a segment that is to be freed (Linux filesystems/f2fs, prefree segments; pins are this project's own).
use Rattle.std.specs.Prelude.{◌≡◌}
use Rattle.geometry.specs.declared.state.State.TheVariants.{Free, Prefree}
use Rattle.words.specs.Tokens.{FreeSegment, IsFreed, IsKept}
use Rattle.sit.specs.Segment.{entered}
use Rattle.sit.specs.Registered.{Registered, post_of}

-- It was retired and is free: no pin was out, and a version later than the one in which it was retired was complete.
pub record HasFreed (old : Registered) (slip : FreeSegment) (new : Registered) : Type 0 where
  pub retired : old.segment.state ≡ Prefree
  pub segment : new.segment ≡ entered old.segment Free
  pub life : IsFreed (post_of old) slip (post_of new)

-- It is as it was: it was not retired, or a pin was out, or no such version was complete.
pub record HasStayed (old new : Registered) : Type 0 where
  pub segment : new.segment ≡ old.segment
  pub life : old.segment.state ≡ Prefree → IsKept (post_of old) (post_of new)
