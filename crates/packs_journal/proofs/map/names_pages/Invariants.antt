use Rattle.std.proofs.Common.{◌≡◌, true}
use Rattle.packs_journal.specs.Journal.{names_pages as names_pages_of}
use Rattle.packs_journal.proofs.map.names_pages.Given as goal

abbrev pub invariant-loop-k : goal.invariant-loop-k
invariant-loop-k l = record {
  named : names_pages_of l.pages l.map l.k ≡ true;
}
