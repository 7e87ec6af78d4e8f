use Rattle.std.proofs.Common.{arith}
use Rattle.pool.proofs.Steps.{merges}
use Rattle.pool.proofs.pool.Pool.join.Goals as goal

pub absorb-requires-clause-rule : goal.absorb-requires-clause-rule
absorb-requires-clause-rule g c = merges _ _ _ _ c.pass.invariant.2

pub absorb-requires-2-clause-rule : goal.absorb-requires-2-clause-rule
absorb-requires-2-clause-rule g c = merges _ _ _ _ (let some = c.pass.invariant.2 in let same = c.pass.invariant.3 in omega (arith, some, same))
