use Rattle.std.proofs.Common.{◌≡◌, ◌*◌, ◌<◌, ◌≤◌, ℕ, false}
use Rattle.geometry.specs.Bits.{is_bit}
use Rattle.sit.proofs.bits.Bits.next_set.Given as goal

abbrev pub invariant-loop-index : goal.invariant-loop-index
invariant-loop-index l = (o : ℕ) → l.from ≤ o → o < 64 * l.index → is_bit l.self-inside.words.items o ≡ false
