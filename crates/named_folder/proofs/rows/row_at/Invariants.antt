use Rattle.std.proofs.Common.{map}
use Rattle.named_folder.specs.Rows.{row_of}
use Rattle.named_folder.proofs.Places.{PassedRows}
use Rattle.named_folder.proofs.rows.row_at.Given as goal

abbrev pub invariant-loop-place : goal.invariant-loop-place
invariant-loop-place l = PassedRows l.name l.place (map row_of l.entries)
