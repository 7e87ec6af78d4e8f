use Rattle.std.proofs.Common.{◌≡◌, ◌<◌, ◌≤◌, ◌-◌, ◌++◌, None, replicate, vec_len, vec_capacity}
use Rattle.nodes.proofs.slots.drop_last.Given as goal

abbrev pub invariant-loop-stored : goal.invariant-loop-stored
invariant-loop-stored g l = record {
  items : l.fn.stored.items ≡ l.stored.items ++ replicate (vec_len l.fn.stored - vec_len l.stored) None;
  some : 0 < vec_len l.stored;
  fewer : vec_len l.stored ≤ vec_len l.fn.stored;
  room : vec_capacity l.stored ≡ vec_capacity l.fn.stored;
}

abbrev pub decreases-loop-stored : goal.decreases-loop-stored
decreases-loop-stored g l = vec_len l.stored
