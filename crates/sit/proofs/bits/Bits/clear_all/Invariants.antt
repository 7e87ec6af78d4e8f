use Rattle.std.proofs.Common.{◌≡◌, length, false}
use Rattle.sit.proofs.BitLemmas.{AreWritten}
use Rattle.sit.proofs.bits.Bits.clear_all.Given as goal

abbrev pub invariant-loop-index : goal.invariant-loop-index
invariant-loop-index l = AreWritten (λ o. false) (length l.initial.self-inside.words.items) l.index l.self-inside.words.items × (l.self-inside.len ≡ l.initial.self-inside.len)
