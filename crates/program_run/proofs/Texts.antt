-- The lines of files one behind the other.
use Rattle.std.proofs.Common.{◌≡◌, ◌∙◌, ◌<◌, ◌+◌, ℕ, List, [], ◌∷◌, ◌++◌, length, map, take, get_or, ap, sym, append-nil}
use Rattle.std.proofs.lemmas.List.{map-append, take_more}
use Rattle.std.proofs.lemmas.List.Concat.{flat_map-append}
use Rattle.geometry.specs.declared.shape.Shape.{Shape}
use Rattle.file_cells.specs.Pass.{Pass}
use Rattle.geometry.specs.File.{File}
use Rattle.program_run.specs.Lines.{file_line, lines_of}

abbrev pub pair : Pass → ℕ × File
pair pass = (pass.number, pass.file)

-- the line of one pass more
pub one_line_more : (shape : Shape) (passes : List Pass) (place : ℕ) (pass : Pass) → place < length passes → pass ≡ get_or passes place pass
    → lines_of shape (map pair (take place passes)) ++ file_line shape pass.number pass.file ≡ lines_of shape (map pair (take (place + 1) passes))
one_line_more shape passes place pass low is =
    let before = take place passes in
    let line = λ (file : ℕ × File). file_line shape file.0 file.1 in
    ap (λ xs. lines_of shape (map pair before) ++ xs) (sym (append-nil (line (pair pass))))
    ∙ sym (flat_map-append line (map pair before) (pair pass ∷ []))
    ∙ ap (lines_of shape) (sym (map-append pair before (pass ∷ [])))
    ∙ ap (λ p. lines_of shape (map pair (before ++ p ∷ []))) is
    ∙ ap (λ xs. lines_of shape (map pair xs)) (sym (take_more passes place pass low))
