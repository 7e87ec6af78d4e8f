-- What the worker of a number makes of its share of the files, and the lines that it writes.
use Rattle.std.specs.Prelude.{◌≡◌, ◌⊎◌, ℕ, List, [], ◌∷◌, ◌++◌, Option, Result}
use Rattle.geometry.specs.declared.error.Error.{Error}
use Rattle.geometry.specs.declared.error.Error.TheVariants.{NoFile}
use Rattle.cleaning.specs.declared.section.Cleaned.{Cleaned}
use Rattle.program_script.specs.declared.command.WorkerDeed.{WorkerDeed}
use Rattle.program_script.specs.declared.command.WorkerDeed.TheVariants.{Write, Fill, Read, Cut, Clean, Sync, Look}
use Rattle.program_script.specs.declared.script.WorkerTask.{WorkerTask}
use Rattle.program_run.specs.declared.content.Content.{Content}
use Rattle.program_run.specs.declared.synced.Synced.{Synced}
use Rattle.program_run.specs.Files.{Files, HasReader, reader_at, shown_by}
use Rattle.program_run.specs.Lines.{look_line}
use Rattle.program_run.specs.Work.{IsCut, IsFilled, IsFound, IsSynced, IsTidied, IsWritten}
use Rattle.program_run.specs.WorkerLines.{done_text, read_text, refused_line}

-- what a reader shows was told, or a refusal where no such reader is open
abbrev pub IsLooked : ℕ → Files → ℕ → List ℕ → Type 0
IsLooked number files reader line =
    (HasReader files reader × (line ≡ look_line files.geometry.shape reader (shown_by (reader_at files reader))))
    ⊎ ((¬ (HasReader files reader)) × (line ≡ refused_line number NoFile))

-- work was done or refused, and this was written of it
abbrev pub TaskWrites : ℕ → WorkerDeed → Files → Files → List ℕ → Type 0
TaskWrites number (Write file index byte) old new line =
    (done : Result (Unit {0}) Error) × IsWritten old file index byte done new × (line ≡ done_text number done)
TaskWrites number (Fill file first last byte) old new line =
    (done : Result (Unit {0}) Error) × IsFilled old file first last byte done new × (line ≡ done_text number done)
TaskWrites number (Read file index) old new line =
    (found : Result (Option Content) Error) × IsFound old file index found × (new ≡ old) × (line ≡ read_text number file index found)
TaskWrites number (Cut file length) old new line =
    (done : Result (Unit {0}) Error) × IsCut old file length done new × (line ≡ done_text number done)
TaskWrites number (Clean cleaning) old new line =
    (cleaned : Result Cleaned Error) × IsTidied old cleaning cleaned × (new ≡ old) × (line ≡ done_text number cleaned)
TaskWrites number (Look reader) old new line = IsLooked number old reader line × (new ≡ old)
TaskWrites number Sync old new line =
    (synced : Result Synced Error) × IsSynced old synced × (new ≡ old) × (line ≡ done_text number synced)

-- the tasks in order, each on what the one before it left
abbrev pub TasksWrite : ℕ → List WorkerTask → Files → Files → List ℕ → Type 0
TasksWrite number [] old new text = (new ≡ old) × (text ≡ [])
TasksWrite number (task ∷ tasks) old new text =
    (middle : Files) × (line : List ℕ) × (lines : List ℕ)
    × TaskWrites number task.work old middle line × TasksWrite number tasks middle new lines × (text ≡ line ++ lines)
