-- What a volume's passes showed when it was closed.
use Rattle.std.specs.Prelude.{ℕ, ◌↔◌, List}
use Rattle.geometry.specs.File.{File}
use Rattle.image_law.specs.Items.{Among}
use Rattle.file_cells.specs.Pass.{Pass}

-- these files with their inode numbers are those of the passes: each is what a pass showed, and each pass showed one of them
abbrev pub AreShown : List (ℕ × File) → List Pass → Type 0
AreShown files passes = (number : ℕ) (file : File) → Among (number, file) files ↔ Among (record { number = number; file = file }) passes
