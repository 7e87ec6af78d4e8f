use Rattle.std.proofs.Common.{◌≡◌, ◌+◌, ◌-◌, ◌≤◌}
use Rattle.geometry.specs.Shape.{segment_blocks}
use Rattle.cleaning.proofs.section.clean_segment.Given as goal

abbrev pub invariant-offsets : goal.invariant-offsets
invariant-offsets g l = record {
  within : l.counts.moved + l.counts.gone ≤ l.from;
  inside : l.from ≤ segment_blocks g.V.Numbers.GeometryName.geometry.shape;
  hand : l.hand ≡ l.fn.hand;
}

abbrev pub decreases-offsets : goal.decreases-offsets
decreases-offsets g l = segment_blocks g.V.Numbers.GeometryName.geometry.shape - l.from
