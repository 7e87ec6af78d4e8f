use Rattle.sit.proofs.BitLemmas.{some_first_bits, all_first_bits}
use Rattle.sit.proofs.bits.first_bits.Goals as goal

pub returns-then-count-lt64 : goal.returns-then-count-lt64
returns-then-count-lt64 c = some_first_bits c.args.count c.if-count-lt64.true

pub returns-else-count-lt64 : goal.returns-else-count-lt64
returns-else-count-lt64 c = all_first_bits c.args.count c.if-count-lt64.false
