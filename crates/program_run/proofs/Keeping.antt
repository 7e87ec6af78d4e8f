-- Readers are counted in the volume's files, and whatever a worker does to a file changes its pass alone: so each share
-- that comes back has as many readers as the rest.
use Rattle.std.proofs.Common.{◌≡◌, ◌∙◌, ℕ, List, [], ◌∷◌, ◌+◌, ap, map, subst, sym, inl, inr, length, Result, Ok, Err}
use Rattle.std.specs.Prelude.{All, IfOk}
use Rattle.std.specs.List.{AllZip}
use Rattle.std.proofs.lemmas.List.Elements.{All-cons, All-head, All-nil, All-tail}
use Rattle.std.proofs.lemmas.Result.{IfOk-weaker}
use Rattle.flash_volume.specs.Rounds.{Held, Lot}
use Rattle.geometry.specs.declared.error.Error.{Error}
use Rattle.geometry.specs.declared.geometry.Geometry.{Geometry}
use Rattle.program_script.specs.declared.command.WorkerDeed.{WorkerDeed}
use Rattle.program_script.specs.declared.command.WorkerDeed.TheVariants.{Write, Fill, Read, Cut, Clean, Sync, Look}
use Rattle.program_script.specs.declared.script.WorkerTask.{WorkerTask}
use Rattle.program_script.specs.declared.script.Worker.{Worker}
use Rattle.program_run.specs.Files.{AreInOrder, Files, StandInPlace}
use Rattle.program_run.specs.Work.{IsCut, IsFilled, IsWritten}
use Rattle.program_run.specs.PartJobs.{AreFit, AreGiven, Hand, IsDone, IsMade}
use Rattle.program_run.specs.Tasks.{TaskWrites, TasksWrite}

abbrev readers : Files → ℕ
readers files = length files.readers

written_keeps : (old new : Files) (file index byte : ℕ) (done : Result (Unit {0}) Error) → IsWritten old file index byte done new → readers new ≡ readers old
written_keeps old new file index byte (Ok done) written = ap readers written.1
written_keeps old new file index byte (Err error) written = ap readers written.1

filled_keeps : (old new : Files) (file first last byte : ℕ) (done : Result (Unit {0}) Error) → IsFilled old file first last byte done new → readers new ≡ readers old
filled_keeps old new file first last byte (Ok done) filled = ap readers filled.1
filled_keeps old new file first last byte (Err error) (inl some) = ap readers some.2.1
filled_keeps old new file first last byte (Err error) (inr none) = ap readers none.1

cut_keeps : (old new : Files) (file length : ℕ) (done : Result (Unit {0}) Error) → IsCut old file length done new → readers new ≡ readers old
cut_keeps old new file length (Ok done) cut = ap readers cut.1
cut_keeps old new file length (Err error) cut = ap readers cut.1

task_keeps : (number : ℕ) (work : WorkerDeed) (old new : Files) (line : List ℕ) → TaskWrites number work old new line → readers new ≡ readers old
task_keeps number (Write file index byte) old new line (done, written, is) = written_keeps old new file index byte done written
task_keeps number (Fill file first last byte) old new line (done, filled, is) = filled_keeps old new file first last byte done filled
task_keeps number (Read file index) old new line (found, read, same, is) = ap readers same
task_keeps number (Cut file length) old new line (done, cut, is) = cut_keeps old new file length done cut
task_keeps number (Clean cleaning) old new line (cleaned, tidied, same, is) = ap readers same
task_keeps number (Look reader) old new line (looked, same) = ap readers same
task_keeps number Sync old new line (synced, wrote, same, is) = ap readers same

tasks_keep : (number : ℕ) (tasks : List WorkerTask) (old new : Files) (text : List ℕ) → TasksWrite number tasks old new text → readers new ≡ readers old
tasks_keep number [] old new text (same, is) = ap readers same
tasks_keep number (task ∷ tasks) old new text (middle, line, lines, does, run, is) =
    tasks_keep number tasks middle new lines run ∙ task_keeps number task.work old middle line does

module _ (geometry : Geometry) where
  -- giving shares leaves as many places as there were
  given_keeps : (number : ℕ) (workers : List Worker) (old : Files) (part_jobs : List (Lot Hand)) (rest : Files) → AreGiven geometry number workers old part_jobs rest → readers rest ≡ readers old
  given_keeps number [] old [] rest same = ap readers same
  given_keeps number [] old (part_job ∷ part_jobs) rest given = absurd given
  given_keeps number (worker ∷ workers) old [] rest given = absurd given
  given_keeps number (worker ∷ workers) old (part_job ∷ part_jobs) rest (middle, one, given) =
      given_keeps (number + 1) workers middle part_jobs rest given ∙ one.taken.readers.rest_count

  -- what is handed back can be put back among so many readers
  abbrev MayBack : ℕ → Held → Type 0
  MayBack count held = AreInOrder geometry.files held.passes × (length held.readers ≡ count)

module _ {W E : Type 0} (text_of : W → List ℕ) (geometry : Geometry) where
  -- each worker that ended without an error did its tasks
  abbrev pub DidTasks : List (Lot Hand) → List (Lot (Result W E)) → Type 0
  DidTasks part_jobs ended = AllZip (λ part_job end. IfOk end.what (λ text. IsDone geometry part_job.what part_job.held (text_of text) end.held)) part_jobs ended

  -- each share that is handed back has as many as the rest, and its passes are in order
  pub all_fit : (number : ℕ) (workers : List Worker) (old : Files) (part_jobs : List (Lot Hand)) (rest : Files) (ended : List (Lot (Result W E)))
      → AreGiven geometry number workers old part_jobs rest → DidTasks part_jobs ended → AreFit text_of geometry (readers rest) ended
  all_fit number workers old [] rest [] given done = All-nil (λ (end : Lot (Result W E)). IfOk end.what (λ text. AreInOrder geometry.files end.held.passes × (length end.held.readers ≡ readers rest)))
  all_fit number workers old [] rest (end ∷ ended) given done = absurd done
  all_fit number workers old (part_job ∷ part_jobs) rest [] given done = absurd done
  all_fit number [] old (part_job ∷ part_jobs) rest (end ∷ ended) given done = absurd given
  all_fit number (worker ∷ workers) old (part_job ∷ part_jobs) rest (end ∷ ended) (middle, one, given) done =
      let begun = one.taken.readers.share_count in
      let left = given_keeps geometry (number + 1) workers middle part_jobs rest given in
      All-cons (λ (e : Lot (Result W E)). IfOk e.what (λ text. AreInOrder geometry.files e.held.passes × (length e.held.readers ≡ readers rest))) end ended
      (IfOk-weaker end.what _ _
      (λ text did. (
        record {
          places = did.left.passes;
          placed = subst (λ (g : Geometry). StandInPlace g.files did.left.passes) did.back_is.numbers did.back_is.placed;
          are = sym did.back_is.passes_are;
        },
        ap length (sym did.back_is.readers_are) ∙ tasks_keep part_job.what.number part_job.what.tasks did.share did.left (text_of text) did.wrote
            ∙ ap length (did.lent_is.readers_are ∙ sym one.lent_is.readers_are) ∙ begun ∙ sym one.taken.readers.rest_count ∙ sym left,
      ))
      done.0)
      (all_fit (number + 1) workers middle part_jobs rest ended given done.1)

  -- so can what they made
  pub made_fit : {A B : Type 0} (one : A → Lot (Result W E)) (other : B → Lot (List ℕ)) (count : ℕ) (ended : List A) (all : List B) → AreFit text_of geometry count (map one ended)
      → AllZip (IsMade text_of geometry) (map one ended) (map other all) → All (λ (b : B). MayBack geometry count (other b).held) all
  made_fit {A} {B} one other count [] [] fit made = All-nil (λ (b : B). MayBack geometry count (other b).held)
  made_fit one other count [] (b ∷ all) fit made = absurd made
  made_fit one other count (a ∷ ended) [] fit made = absurd made
  made_fit {A} {B} one other count (a ∷ ended) (b ∷ all) fit made =
      let fits = λ (end : Lot (Result W E)). IfOk end.what (λ text. MayBack geometry count end.held) in
      let first : MayBack geometry count (one a).held = subst (λ (what : Result W E). IfOk what (λ text. MayBack geometry count (one a).held)) made.0.ok (All-head fits (one a) (map one ended) fit) in
      All-cons (λ (b : B). MayBack geometry count (other b).held) b all (subst (MayBack geometry count) (sym made.0.held_is) first)
      (made_fit one other count ended all (All-tail fits (one a) (map one ended) fit) made.1)
