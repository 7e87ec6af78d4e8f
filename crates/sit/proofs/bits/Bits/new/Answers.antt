use Rattle.std.proofs.Common.{rules, ◌≡◌, replicate, ap, ◌∙◌}
use Rattle.geometry.specs.Bits.{bits_of}
use Rattle.sit.proofs.BitLemmas.{bits_of-clear}
use Rattle.sit.proofs.bits.Bits.new.Goals as goal

pub returns-clause-ok : goal.returns-clause-ok
returns-clause-ok c =
    let n = c.div_ceil.result in
    let items : c.in_ok-words.words.items ≡ replicate n 0 = search rules in
    ap (λ ws. bits_of ws c.args.len) items ∙ bits_of-clear n c.args.len
