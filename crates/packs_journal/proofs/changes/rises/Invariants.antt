use Rattle.std.proofs.Common.{◌≡◌, true}
use Rattle.packs_journal.specs.Journal.{rises as rises_in, next_place}
use Rattle.packs_journal.proofs.changes.rises.Given as goal

abbrev pub invariant-loop-n : goal.invariant-loop-n
invariant-loop-n l = record {
  rise : rises_in l.words l.changes l.n ≡ true;
  next : l.next ≡ next_place l.changes l.n;
}
