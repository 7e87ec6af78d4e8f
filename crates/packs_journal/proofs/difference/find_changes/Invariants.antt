use Rattle.std.proofs.Common.{◌≡◌, ◌<◌, ◌≤◌, ◌*◌, ℕ, false, length, drop}
use Rattle.device.specs.Disk.{IsQuiet}
use Rattle.packs_journal.specs.Places.{page_count as pages_of, page_start, word_count as words_of, most_changes}
use Rattle.packs_journal.specs.Journal.{AreRising, IsPatchedTo}
use Rattle.packs_journal.specs.Reading.{page_in, gathered}
use Rattle.packs_journal.specs.Staging.{body_page}
use Rattle.packs_journal.specs.Pages.{has_page}
use Rattle.packs_journal.proofs.difference.find_changes.Given as goal

abbrev pub invariant-loop-k : goal.invariant-loop-k
invariant-loop-k g l = record {
  patched : IsPatchedTo l.changes.bytes l.changes.count (gathered (length l.body) l.map (pages_of (length l.body)) (g.M.Meta.seen l.fn.meta)) (drop 56 l.body) (page_start (length l.body) l.k);
  rises : AreRising (words_of (length l.body)) l.changes.bytes l.changes.count (512 * l.k);
  noted : (j : ℕ) → j < l.k → has_page l.changes.pages j ≡ false → page_in (length l.body) l.map j (g.M.Meta.seen l.fn.meta) ≡ body_page (length l.body) j l.body;
  few : l.changes.count ≤ most_changes;
  quiet : IsQuiet g.M.Meta.seen g.M.Meta.may_leave g.M.Meta.moment g.M.Meta.left_since l.fn.meta l.meta;
  failed : g.M.Meta.failed l.fn.meta ≤ g.M.Meta.failed l.meta;
}
