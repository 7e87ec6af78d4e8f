use Rattle.std.proofs.Common.{◌≤◌}
use Rattle.std.specs.Prelude.{vec_len, vec_capacity}
use Rattle.flash_volume.proofs.answers.flush.Given as goal

-- at most one guard and one pass a place that was looked at
abbrev pub invariant-loop-place : goal.invariant-loop-place
invariant-loop-place g l = record {
  guards : vec_len l.guards ≤ l.place;
  passes : vec_len l.passes ≤ l.place;
  room : l.files ≤ vec_capacity l.guards;
  place : l.files ≤ vec_capacity l.passes;
}
