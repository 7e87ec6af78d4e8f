-- Shares are given one after the other, and come back from the last one on.
use Rattle.std.proofs.Common.{◌≡◌, ◌∙◌, ℕ, List, [], ◌∷◌, ◌++◌, All, Option, ap, map, sym, subst, refl, arith, take, length, get_or, ◌+◌, ◌<◌}
use Rattle.std.specs.Prelude.{option_to_list}
use Rattle.std.proofs.lemmas.List.{length-take-le, map-append, take_more}
use Rattle.std.proofs.lemmas.List.Elements.{All-pop, All-weaker}
use Rattle.flash_volume.specs.Rounds.{Held, Lot}
use Rattle.geometry.specs.declared.geometry.Geometry.{Geometry}
use Rattle.program_script.specs.declared.script.WorkerTask.{WorkerTask}
use Rattle.program_script.specs.declared.script.Worker.{Worker}
use Rattle.program_run.specs.Files.{AreInOrder, Files}
use Rattle.program_run.specs.Share.{IsPutBack}
use Rattle.program_run.specs.PartJobs.{AreBack, AreGiven, Hand, IsGiven}

module _ (geometry : Geometry) where
  -- one worker more
  pub given_more : (number : ℕ) (workers : List Worker) (worker : Worker) (old middle rest : Files) (part_jobs : List (Lot Hand)) (part_job : Lot Hand)
      → AreGiven geometry number workers old part_jobs middle → IsGiven geometry (number + length workers) worker middle part_job rest
      → AreGiven geometry number (workers ++ worker ∷ []) old (part_jobs ++ part_job ∷ []) rest
  given_more number [] worker old middle rest [] part_job given one =
      let first : number + 0 ≡ number = omega arith in
      (rest, subst (λ files. IsGiven geometry number worker files part_job rest) given (subst (λ n. IsGiven geometry n worker middle part_job rest) first one), refl)
  given_more number [] worker old middle rest (other ∷ part_jobs) part_job given one = absurd given
  given_more number (first ∷ workers) worker old middle rest [] part_job given one = absurd given
  given_more number (first ∷ workers) worker old middle rest (other ∷ part_jobs) part_job (after, begun, given) one =
      let next : number + length (first ∷ workers) ≡ number + 1 + length workers = omega arith in
      (after, begun, given_more (number + 1) workers worker after middle rest part_jobs part_job given (subst (λ n. IsGiven geometry n worker middle part_job rest) next one))

  -- the next worker of all
  pub given_next : (workers : List Worker) (place : ℕ) (worker : Worker) (old middle rest : Files) (part_jobs : List (Lot Hand)) (part_job : Lot Hand)
      → place < length workers → worker ≡ get_or workers place worker
      → AreGiven geometry 0 (take place workers) old part_jobs middle → IsGiven geometry place worker middle part_job rest
      → AreGiven geometry 0 (take (place + 1) workers) old (part_jobs ++ part_job ∷ []) rest
  given_next workers place worker old middle rest part_jobs part_job low is given one =
      let more : take (place + 1) workers ≡ take place workers ++ worker ∷ [] = take_more workers place worker low ∙ ap (λ w. take place workers ++ w ∷ []) (sym is) in
      let count : 0 + length (take place workers) ≡ place = omega (arith, length-take-le place workers (omega arith)) in
      subst (λ ws. AreGiven geometry 0 ws old (part_jobs ++ part_job ∷ []) rest) (sym more)
      (given_more 0 (take place workers) worker old middle rest part_jobs part_job given (subst (λ n. IsGiven geometry n worker middle part_job rest) (sym count) one))

  -- a worker with its tasks, told by equal ones
  pub hand_is : (number : ℕ) (tasks others : List WorkerTask) (time later : ℕ) (hand : Hand) → hand ≡ record { number = number; tasks = tasks; time = time } → tasks ≡ others → time ≡ later
      → hand ≡ record { number = number; tasks = others; time = later }
  hand_is number tasks others time later hand is same now =
      subst (λ t. hand ≡ record { number = number; tasks = others; time = t }) now (subst (λ ts. hand ≡ record { number = number; tasks = ts; time = time }) same is)

  -- one share comes back, and then the others
  pub back_more : (rest middle : Files) (all : List (Lot (List ℕ))) (made : Lot (List ℕ)) (new : Files) → IsPutBack geometry rest made.held middle
      → AreBack geometry middle all new → AreBack geometry rest (all ++ made ∷ []) new
  back_more rest middle [] made new joined same = (rest, refl, subst (IsPutBack geometry rest made.held) (sym same) joined)
  back_more rest middle (first ∷ all) made new joined (left, back, last) = (left, back_more rest middle all made left joined back, last)

  -- the same of what a list is mapped to
  pub back_mapped : {A : Type 0} (lot : A → Lot (List ℕ)) (rest middle : Files) (old all : List A) (made : A) (new : Files) → old ≡ all ++ made ∷ [] → IsPutBack geometry rest (lot made).held middle
      → AreBack geometry middle (map lot all) new → AreBack geometry rest (map lot old) new
  back_mapped lot rest middle old all made new is put back =
      subst (λ ms. AreBack geometry rest ms new) (sym (ap (map lot) is ∙ map-append lot all (made ∷ []))) (back_more rest middle (map lot all) (lot made) new put back)

  -- what is left can still be put back, among as many readers
  pub still_fit : {A : Type 0} (held_of : A → Held) (readers next : ℕ) (all left : List A) (popped : Option A) → all ≡ left ++ option_to_list popped → next ≡ readers
      → All (λ (one : A). AreInOrder geometry.files (held_of one).passes × (length (held_of one).readers ≡ readers)) all
      → All (λ (one : A). AreInOrder geometry.files (held_of one).passes × (length (held_of one).readers ≡ next)) left
  still_fit {A} held_of readers next all left popped is same fit =
      All-weaker (λ (one : A). AreInOrder geometry.files (held_of one).passes × (length (held_of one).readers ≡ readers)) (λ (one : A). AreInOrder geometry.files (held_of one).passes × (length (held_of one).readers ≡ next))
      (λ one fits. (fits.0, fits.1 ∙ sym same)) left
      (All-pop (λ (one : A). AreInOrder geometry.files (held_of one).passes × (length (held_of one).readers ≡ readers)) all left popped is fit).0
