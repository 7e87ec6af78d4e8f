use Rattle.std.proofs.Common.{vec_len}
use Rattle.checkpoint_sync.proofs.apart.+show_apart.Given as goal

abbrev pub decreases-show_apart : goal.decreases-show_apart
decreases-show_apart g l = vec_len l.logs.now
