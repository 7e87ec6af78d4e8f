use Rattle.pool.proofs.Steps.{moments}
use Rattle.pool.proofs.pool.Pool.is_reserve_full.Goals as goal

pub is_full_as-requires-clause-rule : goal.is_full_as-requires-clause-rule
is_full_as-requires-clause-rule g c = moments _ _
