use Rattle.std.proofs.Common.{length}
use Rattle.packs.proofs.staging.+equals.Given as goal

abbrev pub decreases-equals : goal.decreases-equals
decreases-equals g l = length l.bytes.now
