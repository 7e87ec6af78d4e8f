use Rattle.std.proofs.Common.{◌≡◌, ◌+◌, ◌*◌, ◌≤◌}
use Rattle.geometry.specs.Shape.{segment_blocks}
use Rattle.cleaning.proofs.section.clean_section.Given as goal

abbrev pub invariant-loop-place : goal.invariant-loop-place
invariant-loop-place g l = record {
  within : l.counts.moved + l.counts.gone ≤ l.place * segment_blocks g.V.Numbers.GeometryName.geometry.shape;
  hand : l.hand ≡ l.fn.hand;
}
