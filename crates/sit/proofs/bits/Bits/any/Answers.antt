use Rattle.std.proofs.Common.{◌∙◌}
use Rattle.sit.proofs.BitLemmas.{has-first}
use Rattle.sit.proofs.bits.Bits.any.Goals as goal

pub returns : goal.returns
returns c = c.is_some.ensures ∙ has-first c.args.self.now c.next_set.result c.next_set.ensures
