use Rattle.std.proofs.Common.{◌∙◌, ap, ◌/◌, ℕ, get_or, set, arith}
use Rattle.std.specs.Int.RustNames.{bit_xor}
use Rattle.packs_journal.specs.Journal.{copy_in}
use Rattle.packs_journal.proofs.Maps.{turned_same, turned_other, one_bit}
use Rattle.packs_journal.proofs.map.turn_page.Goals as goal

pub returns-clause-turned : goal.returns-clause-turned
returns-clause-turned c =
    let map = c.args.map.now in
    let k = c.args.k in
    ap (λ (x : ℕ). copy_in (set map (k / 8) (bit_xor (get_or map (k / 8) 0) x)) k) (one_bit k) ∙ turned_same map k (omega (arith, c.requires, c.told-map))

pub returns-clause-others : goal.returns-clause-others
returns-clause-others c = λ j apart.
    let map = c.args.map.now in
    let k = c.args.k in
    ap (λ (x : ℕ). copy_in (set map (k / 8) (bit_xor (get_or map (k / 8) 0) x)) j) (one_bit k) ∙ turned_other map k (omega (arith, c.requires, c.told-map)) j apart
