-- The words that stand for kinds, shapes, and ways to clean in a script (the grammar of scripts is this project's own).
use Rattle.std.specs.Prelude.{ℕ, List, codes}
use Rattle.geometry.specs.declared.kind.Kind.{Kind}
use Rattle.geometry.specs.declared.kind.Kind.TheVariants.{File, Dir, Media}
use Rattle.geometry.specs.declared.shape.Shape.{Shape}
use Rattle.geometry.specs.declared.shape.Shape.TheVariants.{Tiny, Kernel}
use Rattle.program_script.specs.declared.command.Cleaning.{Cleaning}
use Rattle.program_script.specs.declared.command.Cleaning.TheVariants.{Foreground, Background}

abbrev pub kind_word : Kind → List ℕ
kind_word File = codes "file"
kind_word Dir = codes "dir"
kind_word Media = codes "media"

abbrev pub shape_word : Shape → List ℕ
shape_word Tiny = codes "TINY"
shape_word Kernel = codes "KERNEL"

abbrev pub cleaning_word : Cleaning → List ℕ
cleaning_word Foreground = codes "fg"
cleaning_word Background = codes "bg"
