-- A part is one step: so the steps that a round ran before it, the part, and the steps that the next rounds ran are one run of steps.
use Rattle.std.proofs.Common.{◌≡◌, ◌∙◌, ℕ, suc, zero, List, [], ◌∷◌, ◌++◌, ap, sym, subst, refl, arith, append_assoc, take, drop, length, map, Option, None, Some, Result, ◌+◌, ◌-◌, ◌<◌, ◌≤◌}
use Rattle.std.specs.Prelude.{All, IfOk, is_some, slice_get, true}
use Rattle.std.proofs.lemmas.Bool.{false≢true}
use Rattle.std.specs.Io.KnownBytes.{Appends}
use Rattle.std.proofs.KnownBytes.{Appends-trans}
use Rattle.std.proofs.lemmas.List.{drop-drop, length-drop}
use Rattle.std.proofs.lemmas.List.Elements.{All-cons, All-nil}
use Rattle.file_cells.specs.Pass.{Pass}
use Rattle.flash_volume.specs.Rounds.{Held, Lot}
use Rattle.geometry.specs.declared.geometry.Geometry.{Geometry}
use Rattle.program_script.specs.declared.script.Step.{Step}
use Rattle.program_script.specs.declared.script.Step.TheVariants.{Part}
use Rattle.program_script.specs.declared.script.Worker.{Worker}
use Rattle.program_run.specs.Files.{AreInOrder, Files, Lends, StandInPlace}
use Rattle.program_run.specs.PartJobs.{AreFit, AreGiven, Hand, TookBack, told_text}
use Rattle.program_run.specs.Part.{PartWrites}
use Rattle.program_run.proofs.Keeping.{DidTasks, all_fit}
use Rattle.program_run.proofs.Lending.{same_files}
use Rattle.program_run.proofs.Whole.{whole}
use Rattle.program_run.specs.Scheduler.{Begins, HasHalted, IsAtPart, MayGoOn, RanOn, first_of}
use Rattle.program_run.specs.Run.{StepsWrite, WroteSteps}
use Rattle.program_run.specs.declared.scheduler.Halt.{Halt}
use Rattle.program_run.specs.declared.steps.Carried.{Carried}
use Rattle.program_run.specs.declared.stop.Stop.{Stop}
use Rattle.volume.specs.declared.volume.Base.{Base}
use Rattle.flash_volume.specs.declared.leave.Leave.{Leave}
use Rattle.std.proofs.lemmas.Result.{IfOk-weaker}
use Rattle.program_run.proofs.Going.{get_low}
use Rattle.program_run.proofs.Runs.{more, one_more}

-- a list up to a place behind one of its items
take_past : {A : Type 0} (xs : List A) (k n : ℕ) (x : A) → slice_get xs k ≡ Some x → k < n → take n xs ≡ take k xs ++ x ∷ take (n - suc k) (drop (suc k) xs)
take_past [] k n x is low = absurd (let no = is in cc)
take_past (y ∷ ys) zero zero x is low = absurd (omega (arith, low))
take_past (y ∷ ys) zero (suc n) x is low =
    let same : y ≡ x = let first = is in cc in
    let rest : n ≡ suc n - suc zero = omega arith in
    ap (λ z. z ∷ take n ys) same ∙ ap (λ j. x ∷ take j ys) rest
take_past (y ∷ ys) (suc k) zero x is low = absurd (omega (arith, low))
take_past (y ∷ ys) (suc k) (suc n) x is low =
    let rest : n - suc k ≡ suc n - suc (suc k) = omega arith in
    ap (λ zs. y ∷ zs) (take_past ys k n x is (omega (arith, low))) ∙ ap (λ j. y ∷ (take k ys ++ x ∷ take j (drop (suc k) ys))) rest

-- what is lent is in order
lent_in_order : (geometry : Geometry) (time : ℕ) (files : Files) (held : Held) → Lends geometry time files held → AreInOrder geometry.files held.passes
lent_in_order geometry time files held lends = record {
  places = files.passes;
  placed = subst (λ (g : Geometry). StandInPlace g.files files.passes) lends.numbers lends.placed;
  are = sym lends.passes_are;
}

-- each worker may begin with its share
pub may_begin : (geometry : Geometry) (number : ℕ) (workers : List Worker) (old : Files) (part_jobs : List (Lot Hand)) (rest : Files) → AreGiven geometry number workers old part_jobs rest
    → All (λ (part_job : Lot Hand). AreInOrder geometry.files part_job.held.passes) part_jobs
may_begin geometry number [] old [] rest given = All-nil (λ (part_job : Lot Hand). AreInOrder geometry.files part_job.held.passes)
may_begin geometry number [] old (part_job ∷ part_jobs) rest given = absurd given
may_begin geometry number (worker ∷ workers) old [] rest given = absurd given
may_begin geometry number (worker ∷ workers) old (part_job ∷ part_jobs) rest (middle, one, given) =
    All-cons (λ (d : Lot Hand). AreInOrder geometry.files d.held.passes) part_job part_jobs (lent_in_order geometry one.share.time one.share part_job.held one.lent_is)
    (may_begin geometry (number + 1) workers middle part_jobs rest given)

module _ {W E : Type 0} (text_of : W → List ℕ) (steps : List Step) (geometry : Geometry) (first : ℕ) (start : Files) (told paused : Option (List ℕ)) (part time : ℕ) (part_jobs : List (Lot Hand)) (held : Held)
    (at : IsAtPart steps geometry first start told paused part time part_jobs held) (ended : List (Lot (Result W E))) (did : DidTasks text_of geometry part_jobs ended) where
  abbrev behind_first : List Step
  behind_first = drop first steps

  low : at.more < length behind_first
  low = get_low behind_first at.more (Part at.line at.workers) at.at

  -- the steps may go on, however the workers ended
  pub goes_on : MayGoOn text_of steps (Some part) geometry held ended
  goes_on = (
    lent_in_order geometry time at.rest held at.lends,
    (let is = at.part_is in let within = low in let whole = length-drop first steps in omega (arith, is, within, whole)),
    subst (λ n. AreFit text_of geometry n ended) (ap length at.lends.readers_are) (all_fit text_of geometry 0 at.workers.items at.now part_jobs at.rest ended at.given did),
  )

  module _ (now middle : Option (List ℕ)) (rest next : Files) (halt : Halt) (after : List Pass) (lends : Lends geometry time rest held) (took : TookBack text_of geometry rest ended next paused now)
      (ran : RanOn steps geometry (part + 1) next halt after now middle) where
    same_rest : rest ≡ at.rest
    same_rest = same_files geometry held time rest at.rest lends at.lends

    abbrev line : List ℕ
    line = told_text 0 took.all

    part_wrote : PartWrites 0 at.workers.items at.now next line
    part_wrote = whole text_of geometry 0 at.workers.items at.now part_jobs rest ended took.all next (subst (λ files. AreGiven geometry 0 at.workers.items at.now part_jobs files) (sym same_rest) at.given) did took.made took.back

    abbrev before : List Step
    before = take at.more behind_first

    abbrev behind : List Step
    behind = take (halt.run - (part + 1)) (drop (part + 1) steps)

    past : at.more < halt.run - first
    past = let is = at.part_is in let above = ran.above in omega (arith, is, above)

    -- the part stands between them
    are : take (halt.run - first) behind_first ≡ (before ++ Part at.line at.workers ∷ []) ++ behind
    are =
        let count : halt.run - first - suc at.more ≡ halt.run - (part + 1) = let is = at.part_is in omega (arith, is) in
        let place : first + suc at.more ≡ part + 1 = let is = at.part_is in omega (arith, is) in
        take_past behind_first at.more (halt.run - first) (Part at.line at.workers) at.at past
        ∙ ap (λ n. before ++ Part at.line at.workers ∷ take n (drop (suc at.more) behind_first)) count
        ∙ ap (λ xs. before ++ Part at.line at.workers ∷ take (halt.run - (part + 1)) xs) (drop-drop (suc at.more) first steps ∙ ap (λ n. drop n steps) place)
        ∙ sym (append_assoc before (Part at.line at.workers ∷ []) behind)

    -- all were run
    pub ran_through : RanOn steps geometry first start halt after told middle
    ran_through = record {
      end = ran.end;
      above = let is = at.part_is in let above = ran.above in omega (arith, is, above);
      ran = record {
        lines = (at.ran.lines ++ line) ++ ran.ran.lines;
        run = subst (λ xs. StepsWrite xs start ran.end ((at.ran.lines ++ line) ++ ran.ran.lines)) (sym are)
            (more (before ++ Part at.line at.workers ∷ []) behind start next ran.end (at.ran.lines ++ line) ran.ran.lines
            (one_more before (Part at.line at.workers) start at.now next at.ran.lines line at.ran.run part_wrote) ran.ran.run);
        told = Appends-trans told now middle (at.ran.lines ++ line) ran.ran.lines (Appends-trans told paused now at.ran.lines line at.ran.told took.told) ran.ran.told;
      };
      placed = ran.placed;
      numbers = ran.numbers;
      passes_are = ran.passes_are;
      time_is = ran.time_is;
      readers_are = ran.readers_are;
      later_is = ran.later_is;
      halted = ran.halted;
    }

  -- what the next rounds come to is what the round that asked for the part comes to
  pub halted_behind : (begun : Option ℕ) (carried next : Carried) (base : Base) (had : Held) (parts : List (Lot (Result W E))) (old new : Option (List ℕ)) (halt : Result Halt Stop) (leave : Leave) (after : List Pass)
      → first_of begun ≡ first → next.time ≡ time → Begins text_of carried geometry base had parts begun start old told
      → HasHalted text_of steps (Some part) next geometry base held ended halt leave after paused new
      → HasHalted text_of steps begun carried geometry base had parts halt leave after old new
  halted_behind begun carried next base had parts old new halt leave after from on_time begins halted = (
    IfOk-weaker halt _ _
        (λ h script. record {
          start = start;
          told = told;
          middle = script.middle;
          begins = begins;
          ran = subst (λ n. RanOn steps geometry n start h after told script.middle) (sym from)
              (ran_through script.told script.middle script.begins.0 script.start h after (subst (λ t. Lends geometry t script.begins.0 held) on_time script.begins.1) script.begins.2 script.ran);
          left_so = script.left_so;
        })
        halted.0,
    halted.1,
  )

-- a round behind a part begins with what its workers handed back
pub begins_behind : {W E : Type 0} (text_of : W → List ℕ) (carried : Carried) (geometry : Geometry) (base : Base) (held : Held) (ended : List (Lot (Result W E))) (begun : Option ℕ) (start rest : Files)
    (old new : Option (List ℕ)) → is_some begun ≡ true → Lends geometry carried.time rest held → TookBack text_of geometry rest ended start old new → Begins text_of carried geometry base held ended begun start old new
begins_behind text_of carried geometry base held ended None start rest old new some lends took = absurd (false≢true some)
begins_behind text_of carried geometry base held ended (Some part) start rest old new some lends took = (rest, lends, took)
