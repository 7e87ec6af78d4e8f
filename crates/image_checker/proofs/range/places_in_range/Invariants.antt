use Rattle.std.proofs.Common.{◌<◌, ℕ, get_or}
use Rattle.std.specs.Prelude.{Option, IfSome}
use Rattle.image.specs.declared.image.LogHead.{LogHead}
use Rattle.image.specs.Rules.{IsPlace}
use Rattle.image_checker.proofs.range.places_in_range.Given as goal

abbrev pub invariant-loop-log : goal.invariant-loop-log
invariant-loop-log l = (j : ℕ) (d : Option LogHead) → j < l.log-index → IfSome (get_or l.logs j d) (IsPlace l.geometry)
