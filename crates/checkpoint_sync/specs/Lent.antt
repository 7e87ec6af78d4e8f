-- The files whose passes were lent to a checkpoint.
use Rattle.std.specs.Prelude.{ℕ}
use Rattle.geometry.specs.File.{File}
use Rattle.file_cells.specs.Pass.{Pass}

-- what a pass shows: the number of its inode, and the file
abbrev pub shown_by : Pass → ℕ × File
shown_by pass = (pass.number, pass.file)
