use Rattle.std.proofs.Common.{◌≡◌, length}
use Rattle.geometry.specs.Bits.{is_bit}
use Rattle.sit.proofs.BitLemmas.{AreWritten}
use Rattle.sit.proofs.bits.Bits.copy_from.Given as goal

abbrev pub invariant-loop-index : goal.invariant-loop-index
invariant-loop-index l = AreWritten (is_bit l.other-inside.words.items) (length l.initial.self-inside.words.items) l.index l.self-inside.words.items × (l.self-inside.len ≡ l.initial.self-inside.len)
