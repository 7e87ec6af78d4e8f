-- What each worker of a part is given, and what it hands back.
use Rattle.std.specs.Prelude.{◌≡◌, ℕ, ◌+◌, List, [], ◌∷◌, ◌++◌, length, All, Option, Result, Ok, IfOk}
use Rattle.std.specs.List.{AllZip}
use Rattle.std.specs.Io.KnownBytes.{Appends}
use Rattle.flash_volume.specs.Rounds.{Held, Lot}
use Rattle.geometry.specs.declared.geometry.Geometry.{Geometry}
use Rattle.program_script.specs.declared.script.WorkerTask.{WorkerTask}
use Rattle.program_script.specs.declared.script.Worker.{Worker}
use Rattle.program_run.specs.Files.{AreInOrder, Files, Lends}
use Rattle.program_run.specs.Share.{IsPutBack, IsShare}
use Rattle.program_run.specs.WorkerLines.{end_line}
use Rattle.program_run.specs.Tasks.{TasksWrite}

-- a worker's number, its tasks, and the time
pub record Hand : Type 0 where
  pub number : ℕ
  pub tasks : List WorkerTask
  pub time : ℕ

module _ (geometry : Geometry) where
  -- the tasks were done on the share that was lent, wrote these lines, and the share is handed back
  pub record IsDone (hand : Hand) (lent : Held) (text : List ℕ) (back : Held) : Type 0 where
    pub share : Files
    pub lent_is : Lends geometry hand.time share lent
    pub left : Files
    pub back_is : Lends geometry left.time left back
    pub wrote : TasksWrite hand.number hand.tasks share left text

  -- this worker was given its tasks with this number, and its share of the files, of which the rest is left
  pub record IsGiven (number : ℕ) (worker : Worker) (old : Files) (part_job : Lot Hand) (rest : Files) : Type 0 where
    pub share : Files
    pub hand_is : part_job.what ≡ record { number = number; tasks = worker.tasks.items; time = share.time }
    pub lent_is : Lends geometry share.time share part_job.held
    pub taken : IsShare worker.tasks.items old share rest

  -- the workers were given their shares one after the other, the first of them with this number
  abbrev pub AreGiven : ℕ → List Worker → Files → List (Lot Hand) → Files → Type 0
  AreGiven number [] old [] rest = rest ≡ old
  AreGiven number [] old (part_job ∷ part_jobs) rest = ⊥
  AreGiven number (worker ∷ workers) old [] rest = ⊥
  AreGiven number (worker ∷ workers) old (part_job ∷ part_jobs) rest =
      (middle : Files) × IsGiven number worker old part_job middle × AreGiven (number + 1) workers middle part_jobs rest

  -- the shares came back, the last one first
  abbrev pub AreBack : Files → List (Lot (List ℕ)) → Files → Type 0
  AreBack rest [] new = new ≡ rest
  AreBack rest (made ∷ all) new = (left : Files) × AreBack rest all left × IsPutBack geometry left made.held new

-- the lines of each worker in order, and that it is done, the first of them with this number
abbrev pub told_text : ℕ → List (Lot (List ℕ)) → List ℕ
told_text number [] = []
told_text number (made ∷ all) = made.what ++ end_line number ++ told_text (number + 1) all

module _ {W E : Type 0} (text_of : W → List ℕ) (geometry : Geometry) where
  -- what workers hand back that end so can be put back among so many readers
  abbrev pub AreFit : ℕ → List (Lot (Result W E)) → Type 0
  AreFit readers ended = All (λ end. IfOk end.what (λ text. AreInOrder geometry.files end.held.passes × (length end.held.readers ≡ readers))) ended

  -- a worker ended with these lines, and hands this back
  pub record IsMade (end : Lot (Result W E)) (made : Lot (List ℕ)) : Type 0 where
    pub text : W
    pub ok : end.what ≡ Ok text
    pub text_is : made.what ≡ text_of text
    pub held_is : made.held ≡ end.held

  -- all workers of a part ended so, their lines were told, and their shares came back
  pub record TookBack (rest : Files) (ended : List (Lot (Result W E))) (new : Files) (before after : Option (List ℕ)) : Type 0 where
    pub all : List (Lot (List ℕ))
    pub made : AllZip IsMade ended all
    pub back : AreBack geometry rest all new
    pub told : Appends before after (told_text 0 all)
