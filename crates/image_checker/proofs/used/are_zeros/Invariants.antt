use Rattle.std.proofs.Common.{◌≡◌, ℕ, ◌<◌, ◌≤◌}
use Rattle.std.specs.Prelude.{slice_index}
use Rattle.image_checker.proofs.used.are_zeros.Given as goal

abbrev pub invariant-loop-at : goal.invariant-loop-at
invariant-loop-at l = record {
  above : (k : ℕ) → k < l.at → slice_index l.numbers k ≤ l.all;
  none : ((k : ℕ) → slice_index l.numbers k ≡ 0) → l.all ≡ 0;
}
