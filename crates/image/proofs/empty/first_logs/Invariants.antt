use Rattle.std.proofs.Common.{◌≡◌, map}
use Rattle.image.specs.Empty.{first_place}
use Rattle.image.specs.Files.{below}
use Rattle.image.proofs.empty.first_logs.Given as goal

abbrev pub invariant-loop-segment : goal.invariant-loop-segment
invariant-loop-segment l = l.logs.items ≡ map first_place (below l.segment)
