use Rattle.std.proofs.Common.{◌≡◌, map, replicate}
use Rattle.image.specs.Empty.{empty_segment}
use Rattle.image.specs.View.{info_view}
use Rattle.image.proofs.empty.empty_segments.Given as goal

abbrev pub invariant-loop : goal.invariant-loop
invariant-loop l = map info_view l.segments.items ≡ replicate l.counter (empty_segment l.fn.shape)
