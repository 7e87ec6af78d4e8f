use Rattle.std.proofs.Common.{ap, ℕ, ◌/◌, ◌<◌, length, arith}
use Rattle.std.specs.Prelude.{◌==◌}
use Rattle.packs_journal.proofs.Sets.{joined_same, joined_other}
use Rattle.packs_journal.proofs.page_set.PageSet.insert.Goals as goal

pub returns-clause-inserted : goal.returns-clause-inserted
returns-clause-inserted c =
    let within : c.args.k / 8 < length c.args.self.now.bits = omega (arith, c.requires) in
    ap (λ (x : ℕ). x == 1) (joined_same c.args.self.now.bits c.args.k within)

pub returns-clause-others : goal.returns-clause-others
returns-clause-others c = λ j apart.
    let within : c.args.k / 8 < length c.args.self.now.bits = omega (arith, c.requires) in
    ap (λ (x : ℕ). x == 1) (joined_other c.args.self.now.bits c.args.k within j apart)
