use Rattle.std.proofs.Common.{sym, ◌∙◌, ap, ◌+◌, ◌-◌, ◌/◌, ◌%◌, eqb, [], ◌∷◌, ◌++◌, append_assoc}
use Rattle.image.specs.Reading.{number_bits}
use Rattle.pack_tables.proofs.Bits.{bits_step}
use Rattle.pack_tables.proofs.rows.push_bits.Goals as goal

pub loop-preserved : goal.loop-preserved
loop-preserved c =
    let rest = number_bits (8 - (c.loop.counter + 1)) (c.loop.left / 2) in
    let bit = eqb (c.loop.left % 2) 1 in
    ap (λ b. b ++ rest) c.in_ok-push.ensures.items
    ∙ append_assoc c.loop.bits.items (bit ∷ []) rest
    ∙ ap (λ t. c.loop.bits.items ++ t) (sym (bits_step c.loop.counter c.loop.left c.loop-test.true))
    ∙ c.loop.invariant
