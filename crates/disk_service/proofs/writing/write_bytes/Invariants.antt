use Rattle.std.proofs.Common.{◌≤◌, ◌-◌, length}
use Rattle.disk_service.proofs.writing.write_bytes.Given as goal

abbrev pub invariant-parts : goal.invariant-parts
invariant-parts g l = l.at ≤ length l.bytes

abbrev pub decreases-parts : goal.decreases-parts
decreases-parts g l = length l.bytes - l.at
