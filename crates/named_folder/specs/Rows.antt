-- The rows of entries.
use Rattle.std.specs.Prelude.{string_bytes}
use Rattle.named_folder.specs.Folder.{Row}
use Rattle.named_folder.specs.declared.entry.FolderRow.{FolderRow}

abbrev pub row_of : FolderRow → Row
row_of entry = record { name = string_bytes entry.name; number = entry.number; bytes = entry.bytes }
