use Rattle.std.proofs.Common.{vec_len}
use Rattle.checkpoint_sync.proofs.rows.release_files.Given as goal

abbrev pub decreases-files : goal.decreases-files
decreases-files g l = vec_len l.files
