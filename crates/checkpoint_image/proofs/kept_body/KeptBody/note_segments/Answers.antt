-- One after another each is noted, and those before it stay noted.
use Rattle.std.proofs.Common.{rules, ◌≡◌, ◌∙◌, refl, sym, ap, subst, ⊎_elim, ℕ, ◌+◌, ◌<◌, length, map, arith}
use Rattle.std.specs.Prelude.{Some}
use Rattle.std.proofs.lemmas.List.{length-map}
use Rattle.atomic_table.specs.Seated.{TableId}
use Rattle.geometry.specs.declared.geometry.Geometry.{Geometry}
use Rattle.image.specs.Pack.{body_bytes}
use Rattle.sit.specs.Registered.{Registered}
use Rattle.sit.specs.Noted.{segment_row}
use Rattle.checkpoint_image.specs.Cells.{IsSegmentAt}
use Rattle.checkpoint_image.specs.Kept.{row_at}
use Rattle.checkpoint_image.specs.Touched.{AreTouched}
use Rattle.checkpoint_image.proofs.Touching.{untouched, touched_on}
use Rattle.checkpoint_image.proofs.KeptRows.{part_of, got_below, noted_more}
use Rattle.checkpoint_image.proofs.Turning.{looked_at, set_shown}
use Rattle.checkpoint_image.proofs.kept_body.KeptBody.note_segments.Goals as goal

pub loop-number-init : goal.loop-number-init
loop-number-init g c = record {
  same = refl;
  there = c.requires.there;
  noted = λ k r below at. absurd (omega (arith, below));
  touched = untouched _ c.args.self.now.body;
  numbers = (refl, refl);
}

pub index_mut-requires : goal.index_mut-requires
index_mut-requires g c =
    let shown = g.S.HoldsSegment.shown in
    let now = length-map c.loop-number.segments.items shown in
    let first = length-map c.args.segments.now.items shown in
    omega (arith, now, first, ap length c.loop-number.invariant.same, c.loop-number-test.true)

pub note_segment-requires-clause-segment : goal.note_segment-requires-clause-segment
note_segment-requires-clause-segment g c =
    let shown = g.S.HoldsSegment.shown in
    let x = c.index_mut.result.now in
    let here = looked_at shown c.loop-number.segments.items c.args.segments.now.items c.loop-number.number c.index_mut.result.now c.loop-number.invariant.same c.index_mut.ensures.value (search rules) in
    subst (λ (geometry : Geometry). IsSegmentAt geometry c.loop-number.number (shown x).segment) (sym c.loop-number.invariant.numbers.0) (c.requires.segments c.loop-number.number (shown x) here.there)

pub note_segment-requires-clause-part : goal.note_segment-requires-clause-part
note_segment-requires-clause-part g c =
    let shown = g.S.HoldsSegment.shown in
    let x = c.index_mut.result.now in
    let here = looked_at shown c.loop-number.segments.items c.args.segments.now.items c.loop-number.number c.index_mut.result.now c.loop-number.invariant.same c.index_mut.ensures.value (search rules) in
    c.requires.parts c.loop-number.number (shown x) here.there ∙ ap (λ (book : TableId). Some (part_of book (c.loop-number.number))) (sym c.loop-number.invariant.numbers.1)

pub returns-in_err-note_segment-clause-same : goal.returns-in_err-note_segment-clause-same
returns-in_err-note_segment-clause-same g c =
    let shown = g.S.HoldsSegment.shown in
    set_shown shown c.loop-number.segments.items (map shown c.args.segments.now.items) c.loop-number.number c.index_mut.result.now c.note_segment.new.segment c.loop-number.invariant.same c.index_mut.ensures.value c.note_segment.ensures.same

pub loop-number-preserved : goal.loop-number-preserved
loop-number-preserved g c =
    let shown = g.S.HoldsSegment.shown in
    let number = c.loop-number.number in
    let x = c.index_mut.result.now in
    let before = c.loop-number.invariant in
    let here = looked_at shown c.loop-number.segments.items c.args.segments.now.items c.loop-number.number c.index_mut.result.now c.loop-number.invariant.same c.index_mut.ensures.value (search rules) in
    let turn = c.note_segment.ensures in
    let old = c.args.self.now in
    let was = c.loop-number.self in
    let now = c.note_segment.new.self in
    record {
      same = set_shown shown c.loop-number.segments.items (map shown c.args.segments.now.items) number x c.note_segment.new.segment before.same c.index_mut.ensures.value turn.same;
      there = turn.there;
      noted = noted_more (λ (r : Registered). segment_row r.segment) (λ k. k) (map shown c.args.segments.now.items) was.twins.items now.twins.items number (shown x) here.there
          c.in_ok-note_segment.ensures.noted turn.others before.noted;
      touched = touched_on (body_bytes old.geometry) old.body was.body now.body before.touched
          (subst (λ (geometry : Geometry). AreTouched (body_bytes geometry) was.body now.body) before.numbers.0 turn.touched);
      numbers = (turn.numbers.0 ∙ before.numbers.0, turn.numbers.1 ∙ before.numbers.1);
    }

pub returns-clause-noted : goal.returns-clause-noted
returns-clause-noted g c = λ k r at.
    let shown = g.S.HoldsSegment.shown in
    let below = got_below (map shown c.args.segments.now.items) k r at in
    let long = length-map c.args.segments.now.items shown in
    c.loop-number.invariant.noted k r (omega (arith, below, long)) at
