use Rattle.std.proofs.Common.{◌≤◌, ◌-◌}
use Rattle.disk_service.proofs.writing.write_zeros.Given as goal

abbrev pub invariant-parts : goal.invariant-parts
invariant-parts g l = l.at ≤ l.length

abbrev pub decreases-parts : goal.decreases-parts
decreases-parts g l = l.length - l.at
