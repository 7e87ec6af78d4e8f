use Rattle.std.proofs.Common.{◌≡◌, ◌≤◌, ◌+◌, ◌*◌, ◌/◌, ℕ, List, length}
use Rattle.packs_journal.specs.Places.{most_changes}
use Rattle.std.specs.Prelude.{min}
use Rattle.packs_journal.specs.Journal.{AreRising, IsPatchedTo, ArePages}
use Rattle.packs_journal.proofs.difference.note_page.Given as goal

abbrev pub invariant-loop-w : goal.invariant-loop-w
invariant-loop-w l = record {
  patched : (before after : List ℕ) → ArePages l.k l.old l.new before after → IsPatchedTo l.fn.changes.bytes l.fn.changes.count before after (4096 * l.k)
      → IsPatchedTo l.changes.bytes l.changes.count before after (4096 * l.k + min (8 * l.w) (length l.new));
  rises : (words : ℕ) → 512 * l.k + (length l.new + 7) / 8 ≤ words → AreRising words l.fn.changes.bytes l.fn.changes.count (512 * l.k)
      → AreRising words l.changes.bytes l.changes.count (512 * l.k + l.w);
  few : l.changes.count ≤ most_changes;
  pages : l.changes.pages ≡ l.fn.changes.pages;
}
