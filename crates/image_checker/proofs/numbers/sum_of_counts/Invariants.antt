use Rattle.std.proofs.Common.{◌≡◌, ◌≤◌, ◌*◌, ◌^◌, ◌-◌, take}
use Rattle.std.specs.Prelude.{sum_by}
use Rattle.image.specs.declared.image.SegmentInfo.{SegmentInfo}
use Rattle.image_checker.proofs.numbers.sum_of_counts.Given as goal

abbrev pub invariant-loop-s : goal.invariant-loop-s
invariant-loop-s l = record {
  so_far : l.sum ≡ sum_by (λ (s : SegmentInfo). s.count) (take l.s-index l.segments);
  low : l.sum ≤ l.s-index * (2 ^ 32 - 1);
}
