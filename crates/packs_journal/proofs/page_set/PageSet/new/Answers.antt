use Rattle.std.proofs.Common.{ap, ℕ}
use Rattle.std.specs.Prelude.{◌==◌}
use Rattle.packs_journal.proofs.Maps.{zero_copy}
use Rattle.packs_journal.proofs.page_set.PageSet.new.Goals as goal

pub returns : goal.returns
returns c = λ k. ap (λ (x : ℕ). x == 1) (zero_copy k)
