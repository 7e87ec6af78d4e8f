use Rattle.std.proofs.Common.{◌≡◌, ◌*◌, ◌≤◌, take}
use Rattle.checkpoint_image.specs.Held.{total_in}
use Rattle.checkpoint_image.proofs.tables.total_of.Given as goal

abbrev pub invariant-loop-held : goal.invariant-loop-held
invariant-loop-held g l = record {
  so_far : l.total ≡ total_in g.S.HoldsSegment.shown (take l.held-index l.segments);
  most : l.total ≤ l.held-index * 512;
}
