use Rattle.std.proofs.Common.{◌≡◌, take, map}
use Rattle.geometry.specs.Weights.{weigh}
use Rattle.rights_books.specs.Weights.{segment_copy, past}
use Rattle.checkpoint_image.specs.Learning.{HaveLearnedSegments}
use Rattle.checkpoint_image.proofs.segments.learn_segments.Given as goal

abbrev pub invariant-loop-i : goal.invariant-loop-i
invariant-loop-i g l = record {
  same : map g.S.HoldsSegment.shown l.segments.items ≡ map g.S.HoldsSegment.shown l.initial.segments.items;
  fresh : weigh (segment_copy (past l.i)) l.audit.copies ≡ 0;
  learned : HaveLearnedSegments (take l.i (map g.S.HoldsSegment.shown l.initial.segments.items)) l.initial.audit l.audit;
}
