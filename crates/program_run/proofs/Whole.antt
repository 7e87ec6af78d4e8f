-- A whole part: shares are given, the tasks are done, and the shares come back.
use Rattle.std.proofs.Common.{◌≡◌, ◌∙◌, ℕ, List, [], ◌∷◌, ◌++◌, ◌+◌, ap, subst, sym, refl, Result, IfOk}
use Rattle.std.specs.List.{AllZip}
use Rattle.flash_volume.specs.Rounds.{Lot}
use Rattle.geometry.specs.declared.geometry.Geometry.{Geometry}
use Rattle.program_script.specs.declared.script.Worker.{Worker}
use Rattle.program_run.specs.Files.{Files, Lends}
use Rattle.program_run.specs.Share.{AreJoined, IsShare}
use Rattle.program_run.proofs.Keeping.{DidTasks}
use Rattle.program_run.proofs.Lending.{same_files, same_passes}
use Rattle.program_run.specs.PartJobs.{AreBack, AreGiven, Hand, IsDone, IsGiven, IsMade, told_text}
use Rattle.program_run.specs.WorkerLines.{end_line}
use Rattle.program_run.specs.Part.{PartWrites}
use Rattle.program_run.specs.Tasks.{TasksWrite}

module _ {W E : Type 0} (text_of : W → List ℕ) (geometry : Geometry) where
  pub whole : (number : ℕ) (workers : List Worker) (old : Files) (part_jobs : List (Lot Hand)) (rest : Files) (ended : List (Lot (Result W E))) (all : List (Lot (List ℕ))) (new : Files)
      → AreGiven geometry number workers old part_jobs rest → DidTasks text_of geometry part_jobs ended → AllZip (IsMade text_of geometry) ended all → AreBack geometry rest all new
      → PartWrites number workers old new (told_text number all)
  whole number [] old [] rest [] [] new given done made back = (back ∙ given, refl)
  whole number [] old [] rest [] (one ∷ all) new given done made back = absurd made
  whole number [] old [] rest (end ∷ ended) all new given done made back = absurd done
  whole number [] old (part_job ∷ part_jobs) rest ended all new given done made back = absurd given
  whole number (worker ∷ workers) old [] rest ended all new given done made back = absurd given
  whole number (worker ∷ workers) old (part_job ∷ part_jobs) rest [] all new given done made back = absurd done
  whole number (worker ∷ workers) old (part_job ∷ part_jobs) rest (end ∷ ended) [] new given done made back = absurd made
  whole number (worker ∷ workers) old (part_job ∷ part_jobs) rest (end ∷ ended) (own ∷ all) new (middle, one, given) done made (left, back, put) =
      let is_made = made.0 in
      let text = text_of is_made.text in
      let did : IsDone geometry part_job.what part_job.held text end.held =
      subst (λ (what : Result W E). IfOk what (λ (w : W). IsDone geometry part_job.what part_job.held (text_of w) end.held)) is_made.ok done.0 in
      let mine : did.share ≡ one.share = same_files geometry part_job.held one.share.time did.share one.share
      (subst (λ (h : Hand). Lends geometry h.time did.share part_job.held) one.hand_is did.lent_is) one.lent_is in
      let passes : put.share.passes ≡ did.left.passes = same_passes geometry end.held left.time did.left.time put.share did.left
      (subst (λ held. Lends geometry left.time put.share held) is_made.held_is put.lends) did.back_is in
      let readers : put.share.readers ≡ did.left.readers = put.lends.readers_are ∙ ap (λ held. held.readers) is_made.held_is ∙ sym did.back_is.readers_are in
      record {
        share = did.share;
        rest = middle;
        taken = subst (λ (share : Files). IsShare worker.tasks.items old share middle) (sym mine) one.taken;
        done = did.left;
        lines = text;
        wrote = subst (λ (h : Hand). TasksWrite h.number h.tasks did.share did.left text) one.hand_is did.wrote;
        left = left;
        others = told_text (number + 1) all;
        others_wrote = whole (number + 1) workers middle part_jobs rest ended all left given done.1 made.1 back;
        joined = record {
          passes = subst (λ ps. AreJoined left.passes ps new.passes) passes put.joined.passes;
          readers = subst (λ rs. AreJoined left.readers rs new.readers) readers put.joined.readers;
          numbers = put.joined.numbers;
          time = put.joined.time;
        };
        text_is = ap (λ (lines : List ℕ). lines ++ end_line number ++ told_text (number + 1) all) is_made.text_is;
      }
