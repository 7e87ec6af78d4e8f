-- What the steps of a script come to on one volume, round by round: first on the volume that was just opened, then from each part on.
use Rattle.std.specs.Prelude.{◌≡◌, ◌⊎◌, ◌<◌, ◌≤◌, ℕ, ◌+◌, ◌-◌, false, List, [], length, map, take, drop, slice_get, Option, Some, None, Result, Vec, IfOk, IfErr}
use Rattle.std.specs.declared.alloc.Global.{Global}
use Rattle.std.specs.Io.KnownBytes.{Appends}
use Rattle.file_cells.specs.Pass.{Pass}
use Rattle.file_cells.specs.Reader.{SnapshotOf}
use Rattle.flash_volume.specs.Rounds.{Held, Lot}
use Rattle.flash_volume.specs.declared.leave.Leave.{Leave}
use Rattle.flash_volume.specs.declared.leave.Leave.TheVariants.{Close, Discard}
use Rattle.geometry.specs.declared.geometry.Geometry.{Geometry}
use Rattle.program_script.specs.declared.script.Step.{Step}
use Rattle.program_script.specs.declared.script.Step.TheVariants.{Part}
use Rattle.program_script.specs.declared.script.Worker.{Worker}
use Rattle.program_run.specs.Files.{AreInOrder, ArePlaced, Files, IsOpened, Lends, passes_among}
use Rattle.program_run.specs.Lines.{unsynced_line}
use Rattle.program_run.specs.PartJobs.{AreFit, AreGiven, Hand, TookBack}
use Rattle.program_run.specs.Run.{IsHalted, WroteSteps, is_part, mounted_of, names_line, opening_line}
use Rattle.program_run.specs.declared.scheduler.Halt.{Halt}
use Rattle.program_run.specs.declared.scheduler.Pause.{Pause}
use Rattle.program_run.specs.declared.scheduler.Pause.TheVariants.{Part as PartPause, Halt as HaltPause}
use Rattle.program_run.specs.declared.steps.Carried.{Carried}
use Rattle.program_run.specs.declared.stop.Stop.{Stop}
use Rattle.volume.specs.declared.volume.Base.{Base}

-- the step at this place is a part with these workers
abbrev pub HasPart : List Step → ℕ → List Worker → Type 0
HasPart steps run workers = (line : ℕ) × (all : Vec Worker Global) × (slice_get steps run ≡ Some (Part line all)) × (workers ≡ all.items)

-- it is no part, or there is none
abbrev pub HasNoPart : List Step → ℕ → Type 0
HasNoPart steps run = (step : Step) → slice_get steps run ≡ Some step → is_part step ≡ false

-- the steps from this one on were run on a volume of these numbers, from these files up to where they halted
pub record RanOn (steps : List Step) (geometry : Geometry) (first : ℕ) (start : Files) (halt : Halt) (ended : List Pass) (old new : Option (List ℕ)) : Type 0 where
  pub end : Files
  pub above : first ≤ halt.run
  pub ran : WroteSteps (take (halt.run - first) (drop first steps)) start end [] old new
  pub placed : ArePlaced end
  pub numbers : end.geometry ≡ geometry
  pub passes_are : ended ≡ passes_among end.passes
  pub time_is : end.time ≡ halt.carried.time
  pub readers_are : length end.readers ≡ halt.carried.readers
  pub later_is : halt.carried.formatted ≡ false
  pub halted : IsHalted steps halt.run end.readers

-- how a volume is to be left whose steps were all run: it is closed, unless it is wounded, which was told
abbrev pub IsLeft : Leave → Option (List ℕ) → Option (List ℕ) → Type 0
IsLeft Close old new = new ≡ old
IsLeft Discard old new = Appends old new unsynced_line

-- the same of one of whose steps so many were run: it is left as it is where some were not
abbrev pub IsLeave : List Step → ℕ → Leave → Option (List ℕ) → Option (List ℕ) → Type 0
IsLeave steps run leave old new = ((run ≡ length steps) × IsLeft leave old new) ⊎ ((run < length steps) × (leave ≡ Discard) × (new ≡ old))

module _ {W E : Type 0} (text_of : W → List ℕ) (steps : List Step) where
  -- with what the steps may go on
  abbrev pub MayGoOn : Option ℕ → Geometry → Held → List (Lot (Result W E)) → Type 0
  MayGoOn None geometry held ended = AreInOrder geometry.files held.passes
  MayGoOn (Some part) geometry held ended =
      AreInOrder geometry.files held.passes × (part < length steps) × AreFit text_of geometry (length held.readers) ended

module _ {W E : Type 0} (text_of : W → List ℕ) (carried : Carried) (geometry : Geometry) (base : Base) (held : Held) (ended : List (Lot (Result W E))) where
  -- a round begins with these files: on the volume that was just opened, which was told, or behind a part
  abbrev pub Begins : Option ℕ → Files → Option (List ℕ) → Option (List ℕ) → Type 0
  Begins None start old new = IsOpened geometry held.passes carried.time carried.readers start × Appends old new (opening_line (mounted_of carried base.version))
  Begins (Some part) start old new = (rest : Files) × Lends geometry carried.time rest held × TookBack text_of geometry rest ended start old new

-- the step with which a round begins
abbrev pub first_of : Option ℕ → ℕ
first_of None = 0
first_of (Some part) = part + 1

-- the steps were run from where a round begins up to where they halted, and it was told that the volume is left, where it is
pub record RanScript {W E : Type 0} (text_of : W → List ℕ) (steps : List Step) (begun : Option ℕ) (carried : Carried) (geometry : Geometry) (base : Base) (held : Held)
    (ended : List (Lot (Result W E))) (halt : Halt) (leave : Leave) (after : List Pass) (old new : Option (List ℕ)) : Type 0 where
  pub start : Files
  pub told : Option (List ℕ)
  pub middle : Option (List ℕ)
  pub begins : Begins text_of carried geometry base held ended begun start old told
  pub ran : RanOn steps geometry (first_of begun) start halt after told middle
  pub left_so : IsLeave steps halt.run leave middle new

-- the steps halted so, or were stopped by an error that names no line
abbrev pub HasHalted : {W E : Type 0} → (W → List ℕ) → List Step → Option ℕ → Carried → Geometry → Base → Held → List (Lot (Result W E)) → Result Halt Stop → Leave → List Pass
    → Option (List ℕ) → Option (List ℕ) → Type 0
HasHalted text_of steps begun carried geometry base held ended halt leave after old new =
    IfOk halt (λ halt. RanScript text_of steps begun carried geometry base held ended halt leave after old new) × IfErr halt (λ stop. names_line stop ≡ false)

module _ (steps : List Step) (geometry : Geometry) (first : ℕ) (start : Files) (old new : Option (List ℕ)) where
  -- the steps were run up to this part, whose workers were given their shares, and the rest of the files is lent
  pub record IsAtPart (part time : ℕ) (part_jobs : List (Lot Hand)) (held : Held) : Type 0 where
    pub more : ℕ
    pub line : ℕ
    pub workers : Vec Worker Global
    pub now : Files
    pub rest : Files
    pub part_is : part ≡ first + more
    pub at : slice_get (drop first steps) more ≡ Some (Part line workers)
    pub ran : WroteSteps (take more (drop first steps)) start now [] old new
    pub given : AreGiven geometry 0 workers.items now part_jobs rest
    pub lends : Lends geometry time rest held

  -- a round ended so
  abbrev pub Pauses : {D : Type 0} → (D → Lot Hand) → Pause D → Held → Type 0
  Pauses lot_of (PartPause part time part_jobs) held = IsAtPart part time (map lot_of part_jobs.items) held
  Pauses lot_of (HaltPause halt leave) held = (middle : Option (List ℕ)) × RanOn steps geometry first start halt held.passes old middle × IsLeave steps halt.run leave middle new
