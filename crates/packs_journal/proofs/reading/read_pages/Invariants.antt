use Rattle.std.proofs.Common.{◌≡◌, ◌≤◌, length, take}
use Rattle.device.specs.Disk.{IsQuiet}
use Rattle.packs_journal.specs.Places.{page_start}
use Rattle.packs_journal.specs.Reading.{gathered}
use Rattle.packs_journal.proofs.reading.read_pages.Given as goal

abbrev pub invariant-loop-k : goal.invariant-loop-k
invariant-loop-k g l = record {
  read : take (page_start l.len l.k) l.rest ≡ gathered l.len l.map l.k (g.M.Meta.seen l.fn.meta);
  long : length l.rest ≡ length l.fn.rest;
  quiet : IsQuiet g.M.Meta.seen g.M.Meta.may_leave g.M.Meta.moment g.M.Meta.left_since l.fn.meta l.meta;
  failed : g.M.Meta.failed l.fn.meta ≤ g.M.Meta.failed l.meta;
}
