use Rattle.std.proofs.Common.{◌≡◌, ◌<◌, ◌≤◌, ℕ, get_or, bit_or}
use Rattle.packs_journal.proofs.page_set.PageSet.add.Given as goal

abbrev pub invariant-loop-i : goal.invariant-loop-i
invariant-loop-i l = record {
  done : (j : ℕ) → j < l.i → get_or l.self.bits j 0 ≡ bit_or (get_or l.fn.self.bits j 0) (get_or l.other.bits j 0);
  rest : (j : ℕ) → l.i ≤ j → get_or l.self.bits j 0 ≡ get_or l.fn.self.bits j 0;
}
