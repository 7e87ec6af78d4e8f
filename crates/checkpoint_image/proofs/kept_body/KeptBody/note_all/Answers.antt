use Rattle.std.proofs.Common.{◌≡◌, ◌∙◌, sym, ap, subst, ℕ, ◌<◌, length, map, arith}
use Rattle.std.proofs.lemmas.List.{length-map}
use Rattle.geometry.specs.declared.geometry.Geometry.{Geometry}
use Rattle.sit.specs.Registered.{Registered}
use Rattle.checkpoint_image.specs.Cells.{IsSegmentAt, IsShardAt}
use Rattle.checkpoint_image.proofs.KeptRows.{got_below}
use Rattle.checkpoint_image.proofs.kept_body.KeptBody.note_all.Goals as goal

pub note_segments-requires-clause-segments : goal.note_segments-requires-clause-segments
note_segments-requires-clause-segments g c = λ k r at. subst (λ (geometry : Geometry). IsSegmentAt geometry k r.segment) (sym c.lay.ensures.numbers.0) (c.requires.segments k r at)

pub note_shards-requires-clause-shards : goal.note_shards-requires-clause-shards
note_shards-requires-clause-shards g c = λ k s at.
    subst (λ (geometry : Geometry). IsShardAt geometry k s) (sym (c.note_segments.ensures.numbers.0 ∙ c.lay.ensures.numbers.0)) (c.requires.shards k s at)

pub returns-clause-noted_segments : goal.returns-clause-noted_segments
returns-clause-noted_segments g c = λ k r at.
    let low = got_below (map g.S.HoldsSegment.shown c.args.segments.now.items) k r at in
    let long = length-map c.args.segments.now.items g.S.HoldsSegment.shown in
    let same = ap (λ (geometry : Geometry). geometry.segments) (c.note_segments.ensures.numbers.0 ∙ c.lay.ensures.numbers.0) in
    c.note_shards.ensures.segments k (omega (arith, low, long, same, c.requires.every_segment)) ∙ c.in_ok-note_segments.ensures.noted k r at
