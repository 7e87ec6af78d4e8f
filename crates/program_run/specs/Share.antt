-- A share of a volume's files: what tasks name of them, on its own.
use Rattle.std.specs.Prelude.{◌≡◌, ℕ, ◌+◌, ◌<◌, List, length, Option, Some, None, slice_index_or}
use Rattle.std.specs.List.{Contains, filter_map}
use Rattle.std.specs.Option.{option_or}
use Rattle.program_script.specs.declared.command.WorkerDeed.{WorkerDeed}
use Rattle.program_script.specs.declared.command.WorkerDeed.TheVariants.{Write, Fill, Read, Cut, Clean, Sync, Look}
use Rattle.program_script.specs.declared.script.WorkerTask.{WorkerTask}
use Rattle.flash_volume.specs.Rounds.{Held}
use Rattle.geometry.specs.declared.geometry.Geometry.{Geometry}
use Rattle.program_run.specs.Files.{Files, Lends}

-- the file that work names
abbrev pub file_named : WorkerDeed → Option ℕ
file_named (Write file index byte) = Some file
file_named (Fill file first last byte) = Some file
file_named (Read file index) = Some file
file_named (Cut file length) = Some file
file_named (Clean cleaning) = None
file_named Sync = None
file_named (Look reader) = None

-- the reader that work names
abbrev pub reader_named : WorkerDeed → Option ℕ
reader_named (Write file index byte) = None
reader_named (Fill file first last byte) = None
reader_named (Read file index) = None
reader_named (Cut file length) = None
reader_named (Clean cleaning) = None
reader_named Sync = None
reader_named (Look reader) = Some reader

-- the files that tasks name, in their order
abbrev pub files_named : List WorkerTask → List ℕ
files_named tasks = filter_map (λ task. file_named task.work) tasks

-- the readers that tasks name, in their order
abbrev pub readers_named : List WorkerTask → List ℕ
readers_named tasks = filter_map (λ task. reader_named task.work) tasks

-- some task names the file of this number
abbrev pub NamesFile : List WorkerTask → ℕ → Type 0
NamesFile tasks number = Contains (files_named tasks) number

-- some task names the reader of this number
abbrev pub NamesReader : List WorkerTask → ℕ → Type 0
NamesReader tasks number = Contains (readers_named tasks) number

-- what stood at the places of the numbers that are named stands in the share, and all else in the rest
pub record AreMoved {T : Type 0} (IsNamed : ℕ → Type 0) (old share rest : List (Option T)) : Type 0 where
  pub share_count : length share ≡ length old
  pub rest_count : length rest ≡ length old
  pub moved : (k : ℕ) → k < length old → IsNamed (k + 1) → (slice_index_or share k None ≡ slice_index_or old k None) × (slice_index_or rest k None ≡ None)
  pub stayed : (k : ℕ) → k < length old → ¬ (IsNamed (k + 1)) → (slice_index_or share k None ≡ None) × (slice_index_or rest k None ≡ slice_index_or old k None)

-- the passes of the files and the readers that the tasks name are the share's, the others are left, and numbers and time are the same
pub record IsShare (tasks : List WorkerTask) (old share rest : Files) : Type 0 where
  pub passes : AreMoved (NamesFile tasks) old.passes share.passes rest.passes
  pub readers : AreMoved (NamesReader tasks) old.readers share.readers rest.readers
  pub share_numbers : share.geometry ≡ old.geometry
  pub rest_numbers : rest.geometry ≡ old.geometry
  pub share_time : share.time ≡ old.time
  pub rest_time : rest.time ≡ old.time

-- at each place stands what the share has there, or else what was there
pub record AreJoined {T : Type 0} (rest share new : List (Option T)) : Type 0 where
  pub count : length new ≡ length rest
  pub places : (k : ℕ) → k < length rest → slice_index_or new k None ≡ option_or (slice_index_or share k None) (slice_index_or rest k None)

-- the passes and the readers of the share are back at their places, and numbers and time are as they were
pub record IsJoined (rest share new : Files) : Type 0 where
  pub passes : AreJoined rest.passes share.passes new.passes
  pub readers : AreJoined rest.readers share.readers new.readers
  pub numbers : new.geometry ≡ rest.geometry
  pub time : new.time ≡ rest.time

-- the share that was lent so is back
pub record IsPutBack (geometry : Geometry) (rest : Files) (held : Held) (new : Files) : Type 0 where
  pub share : Files
  pub lends : Lends geometry rest.time share held
  pub joined : IsJoined rest share new
