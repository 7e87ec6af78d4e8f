-- Accounts come in ascending order, so no segment from the present one on was learned; what the audit has is what the
-- first segments have, and a turn adds the next.
use Rattle.std.proofs.Common.{rules, ◌≡◌, ℕ, ◌+◌, ◌<◌, ◌∷◌, slice_set, length, refl, sym, ap, ◌∙◌, subst, arith}
use Rattle.std.proofs.lemmas.List.{set-get_or}
use Rattle.geometry.specs.Weights.{weigh}
use Rattle.rights_books.specs.Weights.{segment_copy, past}
use Rattle.rights_books.specs.Accounts.{SegmentView, CensusView}
use Rattle.rights_books.specs.declared.claim.Copied.TheVariants.{SegmentCopy}
use Rattle.rights_books.proofs.Learning.{borrowed_at, weigh_take_more, past_here, segments_next, no_segments}
use Rattle.rights_books.proofs.books.Books.learn_segments.Goals as goal

pub loop-i-init : goal.loop-i-init
loop-i-init c = record {
  book = refl;
  same = refl;
  fresh = no_segments 0 c.args.audit.now.copies c.requires.none;
  copies = λ h. omega arith;
}

pub learn_segment-requires-clause-ascending : goal.learn_segment-requires-clause-ascending
learn_segment-requires-clause-ascending c =
    let x = c.index_mut.result.now in
    let here = borrowed_at c.args.segments.now.items c.loop-i.segments.items c.loop-i.i x c.loop-i.invariant.same c.index_mut.ensures.value (search rules) in
    let numbered = c.requires.segments c.loop-i.i x here.1 in
    subst (λ (n : ℕ). weigh (segment_copy (past n)) c.loop-i.audit.copies ≡ 0) (sym numbered.0) c.loop-i.invariant.fresh

pub loop-i-preserved : goal.loop-i-preserved
loop-i-preserved c =
    let i = c.loop-i.i in
    let x = c.index_mut.result.now in
    let xs = c.args.segments.now.items in
    let within : i < length xs = search rules in
    let here = borrowed_at xs c.loop-i.segments.items i x c.loop-i.invariant.same c.index_mut.ensures.value within in
    let numbered = c.requires.segments i x here.1 in
    let copies : c.learn_segment.new.audit.copies ≡ SegmentCopy x.segment x.marks ∷ c.loop-i.audit.copies = ap (λ (v : CensusView). v.copies) c.learn_segment.ensures.audit in
    record {
      book = ap (λ (v : CensusView). v.book) c.learn_segment.ensures.audit ∙ c.loop-i.invariant.book;
      same =
          ap (λ (y : SegmentView). slice_set c.loop-i.segments.items i y) (c.learn_segment.ensures.segment ∙ c.index_mut.ensures.value)
          ∙ (set-get_or c.loop-i.segments.items i x ∙ c.loop-i.invariant.same);
      fresh =
          let a = segments_next c.loop-i.i c.loop-i.audit.copies c.loop-i.invariant.fresh in
          let b = past_here c.loop-i.i x.segment numbered.0 in
          let d = ap (weigh (segment_copy (past (c.loop-i.i + 1)))) copies in omega arith;
      copies =
          λ h.
          let a = c.loop-i.invariant.copies h in
          let b = weigh_take_more (λ v. h (SegmentCopy v.segment v.marks)) xs i x within here.0 in
          let d = ap (weigh h) copies in omega arith;
    }
