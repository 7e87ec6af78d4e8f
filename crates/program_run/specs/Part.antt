-- What a part leaves of a volume's files, and what it writes. Each worker works on a share of its own, so neither depends on which
-- of them is faster.
use Rattle.std.specs.Prelude.{◌≡◌, ℕ, ◌+◌, List, [], ◌∷◌, ◌++◌}
use Rattle.program_script.specs.declared.script.WorkerTask.{WorkerTask}
use Rattle.program_script.specs.declared.script.Worker.{Worker}
use Rattle.program_run.specs.Files.{Files}
use Rattle.program_run.specs.Share.{IsJoined, IsShare}
use Rattle.program_run.specs.WorkerLines.{end_line}
use Rattle.program_run.specs.Tasks.{TasksWrite}

-- A worker does its tasks on the share that they name of the files, and the others do theirs on what it leaves of them. Then its
-- share comes back. Its lines stand before those of the others.
pub record WorkerWrites (number : ℕ) (tasks : List WorkerTask) (Others : Files → Files → List ℕ → Type 0) (old new : Files) (text : List ℕ) : Type 0 where
  pub share : Files
  pub rest : Files
  pub taken : IsShare tasks old share rest
  pub done : Files
  pub lines : List ℕ
  pub wrote : TasksWrite number tasks share done lines
  pub left : Files
  pub others : List ℕ
  pub others_wrote : Others rest left others
  pub joined : IsJoined left done new
  pub text_is : text ≡ lines ++ end_line number ++ others

-- these workers, the first of which has this number
abbrev pub PartWrites : ℕ → List Worker → Files → Files → List ℕ → Type 0
PartWrites number [] old new text = (new ≡ old) × (text ≡ [])
PartWrites number (worker ∷ workers) old new text =
    WorkerWrites number worker.tasks.items (PartWrites (number + 1) workers) old new text
