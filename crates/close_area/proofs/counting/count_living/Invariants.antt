use Rattle.std.proofs.Common.{◌≡◌, ◌≤◌, take}
use Rattle.close_area.specs.Returned.{living}
use Rattle.close_area.proofs.counting.count_living.Given as goal

abbrev pub invariant-loop-k : goal.invariant-loop-k
invariant-loop-k g l = (l.count ≡ living (take l.k l.fn.files.items)) × (l.count ≤ l.k)
