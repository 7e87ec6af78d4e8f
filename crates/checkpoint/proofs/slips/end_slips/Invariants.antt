use Rattle.std.proofs.Common.{vec_len}
use Rattle.checkpoint.proofs.slips.end_slips.Given as goal

abbrev pub decreases-kept : goal.decreases-kept
decreases-kept l = vec_len l.kept
