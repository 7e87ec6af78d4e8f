use Rattle.std.proofs.Common.{◌≡◌, ◌≤◌, ◌<◌, ◌/◌, ℕ, true}
use Rattle.packs_journal.specs.Pages.{has_page}
use Rattle.checkpoint_image.proofs.touched_body.touch.Given as goal

abbrev pub invariant-loop-k : goal.invariant-loop-k
invariant-loop-k l = record {
  touched : (j : ℕ) → l.from / 4096 ≤ j → j < l.k → has_page l.pages j ≡ true;
  others : (j : ℕ) → has_page l.fn.pages j ≡ true → has_page l.pages j ≡ true;
}
