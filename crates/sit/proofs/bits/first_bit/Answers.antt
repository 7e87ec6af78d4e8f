use Rattle.sit.proofs.BitLemmas.{no_first, first_is}
use Rattle.sit.proofs.bits.first_bit.Goals as goal

pub returns-then-rest-eq0 : goal.returns-then-rest-eq0
returns-then-rest-eq0 c = no_first c.args.word c.args.from c.if-rest-eq0.true

pub returns : goal.returns
returns c = first_is c.args.word c.args.from c.ranges.word.fits c.if-rest-eq0.false
