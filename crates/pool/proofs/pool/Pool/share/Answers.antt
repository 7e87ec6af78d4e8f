use Rattle.std.proofs.Common.{ap, arith}
use Rattle.pool.proofs.Steps.{forks}
use Rattle.pool.proofs.pool.Pool.share.Goals as goal

pub another-requires-clause-rule : goal.another-requires-clause-rule
another-requires-clause-rule g c = forks _ _ (let r = c.requires.two in let e = ap (λ a. a.ordinary.parts) c.pass.view_is in omega (arith, r, e))

pub another-requires-2-clause-rule : goal.another-requires-2-clause-rule
another-requires-2-clause-rule g c = forks _ _ (let r = c.requires.two in let e = ap (λ a. a.ordinary.parts) c.pass.view_is in let same = c.pass.invariant.3 in omega (arith, r, e, same))
