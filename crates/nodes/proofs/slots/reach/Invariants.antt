use Rattle.std.proofs.Common.{◌≡◌, ◌≤◌, ◌+◌, ◌-◌, ◌++◌, None, replicate, vec_len, vec_capacity}
use Rattle.nodes.proofs.slots.reach.Given as goal

abbrev pub invariant-loop-stored : goal.invariant-loop-stored
invariant-loop-stored g l = record {
  items : l.stored.items ≡ l.fn.stored.items ++ replicate (vec_len l.stored - vec_len l.fn.stored) None;
  grown : vec_len l.fn.stored ≤ vec_len l.stored;
  most : vec_len l.stored - vec_len l.fn.stored ≤ l.at + 1 - vec_len l.fn.stored;
  room : vec_capacity l.stored ≡ vec_capacity l.fn.stored;
}

abbrev pub decreases-loop-stored : goal.decreases-loop-stored
decreases-loop-stored g l = l.at + 1 - vec_len l.stored
