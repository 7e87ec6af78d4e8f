use Rattle.std.proofs.Common.{◌≡◌}
use Rattle.packs_journal.specs.Journal.{patched}
use Rattle.packs_journal.proofs.changes.patch.Given as goal

abbrev pub invariant-loop-n : goal.invariant-loop-n
invariant-loop-n l = record {
  patched : l.bytes ≡ patched l.fn.changes l.n l.fn.bytes;
}
