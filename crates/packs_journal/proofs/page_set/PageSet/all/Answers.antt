use Rattle.std.proofs.Common.{ap, ℕ}
use Rattle.std.specs.Prelude.{◌==◌}
use Rattle.packs_journal.proofs.Sets.{full_bit}
use Rattle.packs_journal.proofs.page_set.PageSet.all.Goals as goal

pub returns : goal.returns
returns c = λ k below. ap (λ (x : ℕ). x == 1) (full_bit k below)
