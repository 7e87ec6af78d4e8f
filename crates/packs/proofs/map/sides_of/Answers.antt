use Rattle.std.proofs.Common.{◌∙◌, arith, length-set}
use Rattle.image.specs.Reading.{number_bits}
use Rattle.packs.specs.Parts.{sides_of as sides_of_number}
use Rattle.packs.proofs.Maps.{bits_more, bits_end}
use Rattle.packs.proofs.map.sides_of.Goals as goal

pub loop-k-preserved : goal.loop-k-preserved
loop-k-preserved c =
    let many = c.loop-k.invariant.many in
    record {
      bits = bits_more 64 c.loop-k.k c.loop-k.rest c.loop-k.sides (number_bits 64 c.args.number) c.loop-k-test.true (omega (arith, c.loop-k-test.true, many)) c.loop-k.invariant.bits;
      many = length-set _ _ _ ∙ many;
    }

pub returns : goal.returns
unfolding sides_of_number
returns c = bits_end 64 c.loop-k.k c.loop-k.rest c.loop-k.sides (number_bits 64 c.args.number) (omega (arith, c.loop-k-test.false)) c.loop-k.invariant.many (omega (arith, c.loop-k.auto.k-end)) c.loop-k.invariant.bits
