use Rattle.std.proofs.Common.{◌≡◌, ◌≤◌, vec_len, vec_capacity}
use Rattle.checkpoint_sync.specs.LocksHeld.{AreHeldLogs}
use Rattle.checkpoint_sync.proofs.locking.lock_logs.Given as goal

abbrev pub invariant-loop-number : goal.invariant-loop-number
invariant-loop-number g l = record {
  count : vec_len l.logs ≡ l.number;
  room : 6 ≤ vec_capacity l.logs;
  are : AreHeldLogs g.V.Words.WordsName.words g.V.Numbers.GeometryName.geometry.segments l.logs.items;
}
