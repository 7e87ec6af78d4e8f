use Rattle.std.proofs.Common.{◌≡◌}
use Rattle.packs_journal.specs.Reading.{gathered}
use Rattle.packs_journal.proofs.reading.gather.Given as goal

abbrev pub invariant-loop-k : goal.invariant-loop-k
invariant-loop-k l = record {
  read : l.rest.items ≡ gathered l.len l.map l.k l.area;
}
