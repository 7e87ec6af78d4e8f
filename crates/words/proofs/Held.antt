-- For callers: what a reader's seat holds after it has pinned and unpinned.
use Rattle.std.proofs.Common.{◌≡◌, ◌≢◌, ℕ, ◌<◌, ◌+◌, arith}
use Rattle.words.specs.declared.claim.Pins.{Pins}
use Rattle.words.specs.Claims.{at, times, times_at}
use Rattle.words.specs.Steps.{pins_with, pins_without}
use Rattle.words.proofs.Counts.{at_here, at_other, without_times}

module _ (p : Pins) (s i : ℕ) where
  pub times-pins_with : times s (pins_with p s i).held ≡ times s p.held + 1
  times-pins_with = let here = at_here s 1 in omega arith

  pub times_at-pins_with : 0 < times_at s i (pins_with p s i).held
  times_at-pins_with = let here = at_here s (at i i 1) in let one = at_here i 1 in omega arith

  pub times-pins_with-other : (z : ℕ) → z ≢ s → times z (pins_with p s i).held ≡ times z p.held
  times-pins_with-other z ne = let other = at_other s z 1 ne in omega arith

module _ (p : Pins) (s : ℕ) (held : 0 < times s p.held) where
  pub times-pins_without : times s (pins_without p s).held + 1 ≡ times s p.held
  times-pins_without = let less = without_times s s p.held held in let here = at_here s 1 in omega arith

  pub times-pins_without-other : (z : ℕ) → z ≢ s → times z (pins_without p s).held ≡ times z p.held
  times-pins_without-other z ne = let less = without_times z s p.held held in let other = at_other s z 1 ne in omega arith
