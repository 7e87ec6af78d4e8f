use Rattle.std.proofs.Common.{◌≡◌, ◌+◌, ◌*◌, ◌/◌, ◌-◌, length, map}
use Rattle.geometry.specs.Shape.{segment_blocks}
use Rattle.image.specs.Pack.{segment_bytes}
use Rattle.image.specs.View.{info_view}
use Rattle.pack_tables.specs.Grammar.{IsSegmentRow}
use Rattle.pack_tables.proofs.Fronts.{IsFront}
use Rattle.pack_tables.proofs.rows.decode_segments.Given as goal

abbrev pub invariant-loop : goal.invariant-loop
invariant-loop l = record {
  read : IsFront (segment_bytes l.shape) (IsSegmentRow l.shape) l.counter l.bytes (map info_view l.segments.items) l.rest;
  left : length l.rest ≡ (l.count - l.counter) * (12 + segment_blocks l.shape / 8);
  row : l.row_bytes ≡ 12 + segment_blocks l.shape / 8;
}
