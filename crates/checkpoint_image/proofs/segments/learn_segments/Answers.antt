-- The segments come in ascending order, so nothing is learned yet from the present one on; what is learned weighs what
-- the first segments have, and a turn adds the next.
use Rattle.std.proofs.Common.{rules, ◌≡◌, ℕ, ◌+◌, map, refl, sym, ◌∙◌, subst, arith}
use Rattle.geometry.specs.Weights.{weigh}
use Rattle.rights_books.specs.Weights.{segment_copy, past}
use Rattle.rights_books.proofs.Learning.{weigh_take_more, past_here, segments_next, no_segments}
use Rattle.sit.specs.Registered.{Registered}
use Rattle.sit.specs.Segment.{marks_of}
use Rattle.checkpoint_image.proofs.Turning.{looked_at, set_shown}
use Rattle.checkpoint_image.proofs.segments.learn_segments.Goals as goal

pub loop-i-init : goal.loop-i-init
loop-i-init g c = record {
  same = refl;
  fresh = no_segments 0 c.args.audit.now.copies c.requires.none;
  learned = record { book = refl; marks = λ h. omega arith; numbers = λ h. omega arith; others = λ h none. refl };
}

pub learn-requires-clause-book : goal.learn-requires-clause-book
learn-requires-clause-book g c =
    let here = looked_at g.S.HoldsSegment.shown c.loop-i.segments.items c.args.segments.now.items c.loop-i.i c.index_mut.result.now c.loop-i.invariant.same c.index_mut.ensures.value (search rules) in
    (c.requires.segments c.loop-i.i _ here.there).1

pub learn-requires-clause-ascending : goal.learn-requires-clause-ascending
learn-requires-clause-ascending g c =
    let here = looked_at g.S.HoldsSegment.shown c.loop-i.segments.items c.args.segments.now.items c.loop-i.i c.index_mut.result.now c.loop-i.invariant.same c.index_mut.ensures.value (search rules) in
    let numbered = c.requires.segments c.loop-i.i _ here.there in
    subst (λ (n : ℕ). weigh (segment_copy (past n)) c.loop-i.audit.copies ≡ 0) (sym numbered.0) c.loop-i.invariant.fresh

pub loop-i-preserved : goal.loop-i-preserved
loop-i-preserved g c =
    let shown = g.S.HoldsSegment.shown in
    let xs = c.args.segments.now.items in
    let i = c.loop-i.i in
    let x = c.index_mut.result.now in
    let here = looked_at g.S.HoldsSegment.shown c.loop-i.segments.items c.args.segments.now.items c.loop-i.i c.index_mut.result.now c.loop-i.invariant.same c.index_mut.ensures.value (search rules) in
    let numbered = c.requires.segments i (shown x) here.there in
    let turn = c.learn.ensures.audit in
    let before = c.loop-i.invariant.learned in
    record {
      same = set_shown shown c.loop-i.segments.items (map shown xs) i x c.learn.new.self c.loop-i.invariant.same c.index_mut.ensures.value c.learn.ensures.same;
      fresh =
          let a = turn.number (past (i + 1)) in
          let b = segments_next i c.loop-i.audit.copies c.loop-i.invariant.fresh in
          let d = past_here i (shown x).segment.number numbered.0 in omega arith;
      learned = record {
        book = turn.book ∙ before.book;
        marks =
            λ h.
            let a = turn.marks h in
            let b = before.marks h in
            let d = weigh_take_more (λ (r : Registered). weigh h (marks_of r.segment)) (map shown xs) i (shown x) here.low here.is in omega arith;
        numbers =
            λ h.
            let a = turn.number h in
            let b = before.numbers h in
            let d = weigh_take_more (λ (r : Registered). h r.segment.number) (map shown xs) i (shown x) here.low here.is in omega arith;
        others = λ h none. turn.others h none ∙ before.others h none;
      };
    }
