use Rattle.std.proofs.Common.{◌≡◌, ◌≤◌, ◌<◌, ℕ, true, length}
use Rattle.device.specs.Disk.{LeavesOnly}
use Rattle.packs_journal.specs.Places.{page_count as pages_of, map_pages}
use Rattle.packs_journal.specs.Journal.{copy_in, names_pages}
use Rattle.packs_journal.specs.Reading.{page_in}
use Rattle.packs_journal.specs.Staging.{IsBeside, IsBesideOne, body_page}
use Rattle.packs_journal.proofs.turning.turn_pages.Given as goal

abbrev pub invariant-loop-k : goal.invariant-loop-k
invariant-loop-k g l = record {
  done : (j : ℕ) → j < l.k → page_in (length l.body) l.map j (g.M.Meta.seen l.meta) ≡ body_page (length l.body) j l.body;
  rest : (j : ℕ) → l.k ≤ j → copy_in l.map j ≡ copy_in l.fn.map j;
  stays : (j : ℕ) → l.k ≤ j → j < pages_of (length l.body) → page_in (length l.body) l.map j (g.M.Meta.seen l.meta) ≡ page_in (length l.body) l.fn.map j (g.M.Meta.seen l.fn.meta);
  named : names_pages (pages_of (length l.body)) l.map map_pages ≡ true;
  beside : IsBeside (length l.body) l.slot (g.M.Meta.seen l.fn.meta) (g.M.Meta.seen l.meta);
  moments : LeavesOnly g.M.Meta.moment g.M.Meta.left_since l.fn.meta l.meta (IsBesideOne g.M.Meta.may_leave (length l.body) l.slot l.fn.meta);
  failed : g.M.Meta.failed l.fn.meta ≤ g.M.Meta.failed l.meta;
}
