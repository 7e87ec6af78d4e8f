use Rattle.std.proofs.Common.{◌≡◌, map, length}
use Rattle.named_folder.specs.Rows.{row_of}
use Rattle.named_folder.proofs.Spelling.{Begun}
use Rattle.named_folder.proofs.folder.decode.Given as goal

abbrev pub invariant-loop : goal.invariant-loop
invariant-loop l = Begun l.bytes l.at l.count (map row_of l.entries.items) × (length l.entries.items ≡ l.counter)
