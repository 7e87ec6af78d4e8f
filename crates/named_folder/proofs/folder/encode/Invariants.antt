use Rattle.std.proofs.Common.{◌≡◌, ◌++◌, map, drop}
use Rattle.std.specs.List.{flat_map}
use Rattle.named_folder.specs.Folder.{row_bytes, folder_bytes}
use Rattle.named_folder.specs.Rows.{row_of}
use Rattle.named_folder.proofs.folder.encode.Given as goal

abbrev pub invariant-loop-entry : goal.invariant-loop-entry
invariant-loop-entry l = l.bytes.items ++ flat_map row_bytes (map row_of (drop l.entry-index l.entries)) ≡ folder_bytes (map row_of l.entries)
