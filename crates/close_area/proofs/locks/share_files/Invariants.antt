use Rattle.std.proofs.Common.{◌≡◌, ◌+◌, ◌≤◌, vec_len, vec_capacity}
use Rattle.close_area.proofs.locks.share_files.Given as goal

abbrev pub invariant-files : goal.invariant-files
invariant-files g l = (vec_len l.locks + vec_len l.files ≡ vec_len l.initial.locks + vec_len l.initial.files) × (vec_len l.locks + vec_len l.files ≤ vec_capacity l.locks)

abbrev pub decreases-files : goal.decreases-files
decreases-files g l = vec_len l.files
