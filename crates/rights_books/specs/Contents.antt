-- What a pass shows, and the file that it is: the one is a spelling of the other.
use Rattle.std.specs.FinMap.{entries, from_sorted}
use Rattle.geometry.specs.File.{File}
use Rattle.rights_books.specs.declared.claim.FileContent.{FileContent}

-- what the pass of a file shows: its blocks in the order of their indexes
abbrev pub as_content : File → FileContent
as_content file = record { kind = file.kind; length = file.length; blocks = entries file.blocks }

-- the file that a pass shows
abbrev pub as_file : FileContent → File
as_file content = record { kind = content.kind; length = content.length; blocks = from_sorted content.blocks }
