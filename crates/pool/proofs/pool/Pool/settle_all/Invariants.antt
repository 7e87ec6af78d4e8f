use Rattle.std.proofs.Common.{◌≤◌, ◌<◌, ◌+◌, vec_len}
use Rattle.pool.specs.Law.{all_parts}
use Rattle.pool.proofs.Gathering.{Collects}
use Rattle.pool.proofs.pool.Pool.settle_all.Given as goal

abbrev pub invariant-loop-other : goal.invariant-loop-other
invariant-loop-other g l = record {
  enough : all_parts ≤ l.all.ordinary.parts + vec_len l.others;
  some : 0 < l.all.ordinary.parts;
  ordinary : Collects (λ a. a.ordinary) l.initial.all l.initial.others.items l.all l.others.items;
  reserve : Collects (λ a. a.reserve) l.initial.all l.initial.others.items l.all l.others.items;
}

abbrev pub decreases-loop-other : goal.decreases-loop-other
decreases-loop-other g l = vec_len l.others
