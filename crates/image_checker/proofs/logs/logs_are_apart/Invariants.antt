use Rattle.std.proofs.Common.{◌<◌, length, ℕ, get_or}
use Rattle.std.specs.Prelude.{Option}
use Rattle.image.specs.declared.image.LogHead.{LogHead}
use Rattle.image.specs.Rules.{AreApart}
use Rattle.image_checker.proofs.logs.logs_are_apart.Given as goal

abbrev pub invariant-loop-j : goal.invariant-loop-j
invariant-loop-j l = (k : ℕ) (d : Option LogHead) → l.i < k → k < l.j → AreApart (get_or l.logs l.i d) (get_or l.logs k d)

abbrev pub invariant-loop-i : goal.invariant-loop-i
invariant-loop-i l = (h k : ℕ) (d : Option LogHead) → h < l.i → h < k → k < length l.logs → AreApart (get_or l.logs h d) (get_or l.logs k d)
