use Rattle.std.proofs.Common.{◌≡◌, length}
use Rattle.checkpoint_sync.proofs.Turned.{AreFound}
use Rattle.checkpoint_sync.proofs.locked_area.HeldArea.find_unsettled.Given as goal

abbrev pub invariant-loop-number : goal.invariant-loop-number
invariant-loop-number g l = record {
  count : length l.unsettled.turns.items ≡ length l.fn.unsettled.turns.items;
  found : AreFound l.self.segments l.unsettled.turns.items l.number;
}
