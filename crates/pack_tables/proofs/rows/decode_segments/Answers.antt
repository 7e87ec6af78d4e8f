use Rattle.std.proofs.Common.{◌∙◌, ap, ◌+◌, ◌/◌, map, arith}
use Rattle.std.proofs.lemmas.List.{map_push}
use Rattle.geometry.specs.Shape.{segment_blocks}
use Rattle.image.specs.Pack.{segment_bytes}
use Rattle.image.specs.View.{info_view}
use Rattle.pack_tables.specs.Grammar.{IsSegmentRow}
use Rattle.pack_tables.proofs.Fronts.{front_next, front_all}
use Rattle.pack_tables.proofs.Rooms.{row_less, row_none}
use Rattle.pack_tables.proofs.rows.decode_segments.Goals as goal

pub loop-preserved : goal.loop-preserved
loop-preserved c =
    let shape = c.args.shape in
    record {
      read = front_next (segment_bytes shape) (IsSegmentRow shape) c.loop.counter c.args.bytes.now c.loop.rest.now c.split_at.result.0.now c.split_at.result.1.now
          (map info_view c.loop.segments.items) (map info_view c.push.new.self.items) (info_view c.in_ok-decode_segment.field-0)
          c.loop.invariant.read c.split_at.ensures.by_index.0
          (ap (map info_view) c.in_ok-push.ensures.items ∙ map_push info_view c.loop.segments.items c.in_ok-decode_segment.field-0)
          c.in_ok-decode_segment.ensures.bytes c.in_ok-decode_segment.ensures.fits;
      left = row_less c.args.count c.loop.counter (12 + segment_blocks shape / 8) _ _ c.loop-test.true c.loop.invariant.left (omega (arith, c.split_at.ensures.back_len, c.loop.invariant.row));
      row = c.loop.invariant.row;
    }

pub returns : goal.returns
returns c =
    let shape = c.args.shape in
    front_all (segment_bytes shape) (IsSegmentRow shape) c.loop.counter c.args.count c.args.bytes.now c.loop.rest.now (map info_view c.loop.segments.items)
    c.loop.invariant.read (omega (arith, c.loop-test.false, c.loop.auto.counter-end))
    (row_none c.args.count c.loop.counter (12 + segment_blocks shape / 8) _ c.loop-test.false c.loop.invariant.left)
