use Rattle.sit.proofs.BitLemmas.{clear_bits_are}
use Rattle.sit.proofs.bits.clear_bits.Goals as goal

pub returns : goal.returns
returns c = clear_bits_are c.args.one c.args.other c.args.count c.first_bits.result c.ranges.one.fits c.ranges.other.fits c.first_bits.ensures
