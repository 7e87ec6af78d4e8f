use Rattle.std.proofs.Common.{◌≤◌, ◌-◌, length}
use Rattle.disk_service.proofs.reading.read_bytes.Given as goal

abbrev pub invariant-parts : goal.invariant-parts
invariant-parts g l = l.at ≤ length l.out

abbrev pub decreases-parts : goal.decreases-parts
decreases-parts g l = length l.initial.out - l.at
