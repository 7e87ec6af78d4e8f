use Rattle.std.proofs.Common.{◌^◌, arith}
use Rattle.file_flush.proofs.Hands.{all_below}
use Rattle.file_flush.proofs.node.all_fit.Goals as goal

pub returns : goal.returns
returns c = all_below (2 ^ 32) c.args.numbers.now (λ k. omega (arith, c.type_inv.numbers k))
