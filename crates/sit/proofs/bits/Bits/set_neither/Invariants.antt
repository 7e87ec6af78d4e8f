use Rattle.std.proofs.Common.{◌≡◌, length}
use Rattle.sit.proofs.BitLemmas.{AreWritten, clear_in}
use Rattle.sit.proofs.bits.Bits.set_neither.Given as goal

abbrev pub invariant-loop-index : goal.invariant-loop-index
invariant-loop-index l = AreWritten (clear_in l.one-inside.words.items l.other-inside.words.items l.self-inside.len) (length l.initial.self-inside.words.items) l.index l.self-inside.words.items × (l.self-inside.len ≡ l.initial.self-inside.len)
