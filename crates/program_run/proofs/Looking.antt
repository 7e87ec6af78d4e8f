-- A reader that is open is told as outside of a part.
use Rattle.std.proofs.Common.{ℕ, inl, inr, List}
use Rattle.program_script.specs.declared.command.WorkerDeed.TheVariants.{Look}
use Rattle.program_run.specs.Files.{Files, HasReader}
use Rattle.program_run.specs.Work.{IsLooked as IsLookedAt, WorkWrites}
use Rattle.program_run.specs.Tasks.{IsLooked, TaskWrites}

open_told : (number : ℕ) (files : Files) (reader : ℕ) (line : List ℕ) → HasReader files reader → IsLookedAt files reader line → IsLooked number files reader line
open_told number files reader line has (inl told) = inl told
open_told number files reader line has (inr none) = absurd (none.0 has)

pub looked : (number : ℕ) (old new : Files) (reader : ℕ) (line : List ℕ) → HasReader old reader → WorkWrites (Look reader) old new line → TaskWrites number (Look reader) old new line
looked number old new reader line has (told, same) = (open_told number old reader line has told, same)
