-- The lines of a worker.
use Rattle.std.specs.Prelude.{ℕ, List, [], ◌++◌, codes, Option, Result, Ok, Err}
use Rattle.std.specs.Fmt.{decimal}
use Rattle.geometry.specs.declared.error.Error.{Error}
use Rattle.program_run.specs.declared.content.Content.{Content}
use Rattle.program_run.specs.Lines.{newline, read_line, refusal_line}

-- a refusal of a worker's work
abbrev pub refused_line : ℕ → Error → List ℕ
refused_line number error = codes "worker " ++ decimal number ++ codes ": " ++ refusal_line error

-- nothing of work that was done, or the refusal
abbrev pub done_text : {T : Type 0} → ℕ → Result T Error → List ℕ
done_text number (Ok done) = []
done_text number (Err error) = refused_line number error

-- what stands at an index of a file, or the refusal
abbrev pub read_text : ℕ → ℕ → ℕ → Result (Option Content) Error → List ℕ
read_text number file index (Ok found) = read_line file index (Ok found)
read_text number file index (Err error) = refused_line number error

-- that a worker has done all of its tasks
abbrev pub end_line : ℕ → List ℕ
end_line number = codes "worker " ++ decimal number ++ codes " ok" ++ newline
