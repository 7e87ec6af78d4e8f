-- What a scheduler owes: each of its rounds says what is done beside it, and what is owed once that has been done.
use Rattle.std.specs.Prelude.{◌≡◌, ◌⊎◌, ℕ, List, [], All, Option, Result, map}
use Rattle.std.specs.List.{AllZip}
use Rattle.file_cells.specs.Pass.{Pass}
use Rattle.file_cells.specs.Reader.{SnapshotOf}
use Rattle.flash_volume.specs.Visited.{ArePassesOf}
use Rattle.flash_volume.specs.Worked.{WasWorked}
use Rattle.flash_volume.specs.declared.leave.Done.{Done}
use Rattle.flash_volume.specs.declared.leave.LeaveFault.{LeaveFault}
use Rattle.flash_volume.specs.declared.leave.Leave.{Leave}
use Rattle.flash_volume.specs.declared.scheduler.SchedulerRound.{SchedulerRound}
use Rattle.flash_volume.specs.declared.scheduler.SchedulerRound.TheVariants.{Beside, Over}
use Rattle.geometry.specs.File.{Block}
use Rattle.geometry.specs.declared.error.Error.{Error}
use Rattle.geometry.specs.declared.error.Error.TheVariants.{NoMemory}
use Rattle.geometry.specs.declared.geometry.Geometry.{Geometry}
use Rattle.image.specs.Image.{Image}

-- what a scheduler has of a volume, or one of its parts: passes, how many seats, and readers
pub record Held : Type 0 where
  pub passes : List Pass
  pub seats : ℕ
  pub readers : List (Option SnapshotOf)

-- a part and what it is lent, or what it did and what it hands back
pub record Lot (T : Type 0) : Type 0 where
  pub what : T
  pub held : Held

-- what a scheduler has at first: these passes, all seats, and no reader
abbrev pub at_first : List Pass → Held
at_first passes = record { passes = passes; seats = 64; readers = [] }

-- a scheduler may run its first round, whatever image is mounted: with the passes of its files
abbrev pub MayBegin : {D : Type 0} → (Geometry → Held → List (Lot D) → Type 0) → Type 0
MayBegin fits =
    (geometry : Geometry) (image : Image) (blocks : ℕ → Block) (before : List Pass) → ArePassesOf geometry image blocks before
    → fits geometry (at_first before) []

module _ {C P D O : Type 0} (part_fits : P → Held → Type 0) (part_did : P → Held → D → Held → Type 0) (fits : C → Held → List (Lot D) → Type 0)
    (did : C → Held → List (Lot D) → O → Leave → List Pass → Type 0) (failed : C → Held → List (Lot D) → Error → Type 0) where
  -- these parts ended so
  abbrev pub AreEnded : List (Lot P) → List (Lot D) → Type 0
  AreEnded parts ended = AllZip (λ part end. part_did part.what part.held end.what end.held) parts ended

  -- Parts may be done with what they are lent. However they end, the scheduler may go on with what it has kept, and what it does then
  -- keeps this promise, and fails only so.
  pub record Asks (promise : O → Leave → List Pass → Type 0) (failing : Error → Type 0) (scheduler : C) (parts : List (Lot P)) (kept : Held) : Type 0 where
    pub may_run : All (λ part. part_fits part.what part.held) parts
    pub may_go_on : (ended : List (Lot D)) → AreEnded parts ended → fits scheduler kept ended
    pub keeps : (ended : List (Lot D)) → AreEnded parts ended → (output : O) (leave : Leave) (after : List Pass)
        → did scheduler kept ended output leave after → promise output leave after
    pub may_fail : (ended : List (Lot D)) → AreEnded parts ended → (error : Error) → failed scheduler kept ended error → failing error

  -- a round keeps this promise: the scheduler is done with the passes that it has, or asks for parts
  abbrev pub Keeps : {W : Type 0} → (W → Lot P) → (O → Leave → List Pass → Type 0) → (Error → Type 0) → SchedulerRound C W O → Held → Type 0
  Keeps lot_of promise failing (Over output leave) held = promise output leave held.passes
  Keeps lot_of promise failing (Beside scheduler part_jobs) held = Asks promise failing scheduler (map lot_of part_jobs.items) held

-- A scheduler did its rounds, which promise this of what it answers, how the volume is to be left, and its passes, and it was left so; or
-- they failed for want of memory, or as the scheduler may.
abbrev pub WasScheduled : {M B O : Type 0} → (M → List ℕ) → (M → List ℕ → Type 0) → (B → ℕ) → (B → List ℕ) → (O → Leave → List Pass → Type 0) → (Error → Type 0) → Geometry
    → Result (Done M B O) (LeaveFault M B) → Type 0
WasScheduled seen may_leave address_of content_of promise failing geometry result =
    (leave : Leave)
    × WasWorked seen may_leave address_of content_of (λ output after. promise output leave after) (λ error. (error ≡ NoMemory) ⊎ failing error) leave geometry result
