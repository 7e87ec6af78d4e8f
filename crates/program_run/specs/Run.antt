-- A run of a script: what each command makes of the volume's files, and the line that it writes. A command that is refused
-- leaves the files as they were, but for a range, which is filled up to the refusal.
use Rattle.std.specs.Prelude.{if◌then◌else◌, ◌≡◌, ◌⊎◌, ◌<◌, ℕ, ◌-◌, ◌^◌, Bool, true, false, List, [], ◌∷◌, ◌++◌, length, min, slice_get, take, Option, Some, None, Result, codes}
use Rattle.std.specs.Fmt.{decimal}
use Rattle.std.specs.Io.KnownBytes.{Appends}
use Rattle.geometry.specs.File.{Block}
use Rattle.geometry.specs.declared.error.Error.{Error}
use Rattle.geometry.specs.declared.error.Error.TheVariants.{SeatsOut}
use Rattle.geometry.specs.declared.geometry.Geometry.{Geometry}
use Rattle.file_cells.specs.Pass.{Pass}
use Rattle.image.specs.Files.{files as files_of}
use Rattle.image.specs.Image.{Image}
use Rattle.image.specs.Rules.{IsLawful}
use Rattle.file_cells.specs.Reader.{SnapshotOf}
use Rattle.file_cells.specs.Status.{all}
use Rattle.file_cells.specs.declared.status.Status.{Status}
use Rattle.program_script.specs.declared.command.Command.{Command}
use Rattle.program_script.specs.declared.command.Command.TheVariants.{Work as WorkOf, Now, Create, Delete, Status as TellStatus, Snap, Done, Fail, Remount}
use Rattle.program_script.specs.declared.script.Step.{Step}
use Rattle.program_script.specs.declared.script.Step.TheVariants.{Command as CommandStep, Part}
use Rattle.program_run.specs.Files.{ArePlaced, Files, IsOpened, no_files, open_count, passes_among, shown_files}
use Rattle.program_run.specs.Lines.{created_line, done_line, image_lines, newline, refusal_line, status_line, taken_line, unsynced_line}
use Rattle.program_run.specs.Work.{IsClosed, IsCreated, IsDeleted, IsTaken, WorkWrites}
use Rattle.program_run.specs.declared.steps.Carried.{Carried}
use Rattle.program_run.specs.declared.steps.Opening.{Opening}
use Rattle.program_run.specs.declared.stop.Stop.{Stop}
use Rattle.program_run.specs.declared.stop.Stop.TheVariants.{BadLine, Failed, NoMemory, Refused}
use Rattle.program_run.specs.Part.{PartWrites}

abbrev pub format_line : List ℕ
format_line = codes "format ok" ++ newline

abbrev pub mount_line : ℕ → List ℕ
mount_line version = codes "mount version " ++ decimal version ++ newline

-- what tells that a volume is there: the version that was mounted, if it was not formatted
abbrev pub opening_line : Option ℕ → List ℕ
opening_line None = format_line
opening_line (Some version) = mount_line version

-- the version that was mounted, if the device was not just formatted
abbrev pub mounted_of : Carried → ℕ → Option ℕ
mounted_of carried version = if carried.formatted then None else Some version

-- A volume was left as it was, and its device mounted again: it has the same numbers, and the files are those of a lawful image
-- over some blocks, of the version that is told. The time goes on, and so do the numbers of readers, of which none is open.
pub record IsRemounted (old new : Files) (line : List ℕ) : Type 0 where
  pub image : Image
  pub blocks : ℕ → Block
  pub none_open : open_count old.readers ≡ 0
  pub numbers_are : new.geometry ≡ old.geometry
  pub lawful : IsLawful new.geometry image
  pub shown : shown_files new ≡ files_of new.geometry image blocks
  pub placed : ArePlaced new
  pub time_is : new.time ≡ old.time
  pub readers_are : new.readers ≡ old.readers
  pub told : line ≡ mount_line image.version

-- the volume was not mounted again, since readers are open, and it is told how many
abbrev pub IsHeld : Files → Files → List ℕ → Type 0
IsHeld old new line =
    (0 < open_count old.readers) × (new ≡ old) × (line ≡ refusal_line (SeatsOut (min (open_count old.readers) (2 ^ 32 - 1))))

-- a command was done or refused, and wrote its line
abbrev pub CommandWrites : Command → Files → Files → List ℕ → Type 0
CommandWrites (WorkOf work) old new line = WorkWrites work old new line
CommandWrites (Now now) old new line = (new ≡ record old { time = now }) × (line ≡ [])
CommandWrites (Create kind) old new line =
    (created : Result ℕ Error) × IsCreated old kind created new × (line ≡ created_line created)
CommandWrites (Delete file) old new line =
    (done : Result (Unit {0}) Error) × IsDeleted old file done new × (line ≡ done_line done)
CommandWrites TellStatus old new line =
    (status : Status) × (all status ≡ old.geometry.segments) × (new ≡ old) × (line ≡ status_line status)
CommandWrites (Snap file) old new line =
    (taken : Result ℕ Error) × IsTaken old file taken new × (line ≡ taken_line taken)
CommandWrites (Done reader) old new line =
    (done : Result (Unit {0}) Error) × IsClosed old reader done new × (line ≡ done_line done)
CommandWrites (Fail failure) old new line = (new ≡ old) × (line ≡ [])
CommandWrites Remount old new line = IsRemounted old new line ⊎ IsHeld old new line

-- a step is one command, or a part of workers that run side by side
abbrev pub StepWrites : Step → Files → Files → List ℕ → Type 0
StepWrites (CommandStep line command) old new text = CommandWrites command old new text
StepWrites (Part line workers) old new text = PartWrites 0 workers.items old new text

-- the steps in order, each on what the one before it left
abbrev pub StepsWrite : List Step → Files → Files → List ℕ → Type 0
StepsWrite [] old new text = (new ≡ old) × (text ≡ [])
StepsWrite (step ∷ steps) old new text =
    (middle : Files) × (line : List ℕ) × (lines : List ℕ)
    × StepWrites step old middle line × StepsWrite steps middle new lines × (text ≡ line ++ lines)

-- the steps were run on a volume, which is then this one, and what they wrote stands behind a first text
pub record WroteSteps (steps : List Step) (begun now : Files) (first : List ℕ) (old new : Option (List ℕ)) : Type 0 where
  pub lines : List ℕ
  pub run : StepsWrite steps begun now lines
  pub told : Appends old new (first ++ lines)

-- whether a step mounts the volume again
abbrev pub is_remount : Step → Bool
is_remount (CommandStep line Remount) = true
is_remount other = false

-- so many of the steps were run: all, or the next one mounts the volume again, and no reader is open
abbrev pub IsHalted : List Step → ℕ → List (Option SnapshotOf) → Type 0
IsHalted steps run readers =
    (run ≡ length steps)
    ⊎ ((step : Step) × (slice_get steps run ≡ Some step) × (is_remount step ≡ true) × (open_count readers ≡ 0))

-- whether a step is a part of workers
abbrev pub is_part : Step → Bool
is_part (CommandStep line command) = false
is_part (Part line workers) = true

-- so many of the steps were run: all, or the next one is a part, or it mounts the volume again, and no reader is open
abbrev pub IsPaused : List Step → ℕ → List (Option SnapshotOf) → Type 0
IsPaused steps run readers =
    IsHalted steps run readers ⊎ ((step : Step) × (slice_get steps run ≡ Some step) × (is_part step ≡ true))

-- how the first volume of a script comes to be
abbrev pub first_opening : Opening
first_opening = record { mounted = None; carried = record { formatted = true; time = 0; readers = 0 } }

-- Steps were run on a volume that was opened so, with these passes, up to where they halted. At the end it has these others, and
-- this is carried on, to a volume that is mounted.
pub record RanSome (steps : List Step) (geometry : Geometry) (passes : List Pass) (opening : Opening) (ended : List Pass) (run : ℕ) (carried : Carried) (old new : Option (List ℕ)) : Type 0 where
  pub begun : Files
  pub end : Files
  pub opened : IsOpened geometry passes opening.carried.time opening.carried.readers begun
  pub ran : WroteSteps (take run steps) begun end (opening_line opening.mounted) old new
  pub placed : ArePlaced end
  pub numbers : end.geometry ≡ geometry
  pub passes_are : ended ≡ passes_among end.passes
  pub time_is : end.time ≡ carried.time
  pub readers_are : length end.readers ≡ carried.readers
  pub later_is : carried.formatted ≡ false
  pub halted : IsHalted steps run end.readers

-- The end of a script whose volume was closed: a lawful image, whose files over some blocks are exactly those that the passes
-- showed, in the order of their numbers; the line of each, and the image's total.
pub record EndsClosed (end : Files) (text : List ℕ) : Type 0 where
  pub image : Image
  pub blocks : ℕ → Block
  pub lawful : IsLawful end.geometry image
  pub shown : files_of end.geometry image blocks ≡ shown_files end
  pub text_is : text ≡ image_lines end.geometry image blocks

-- The end of a script whose volume was wounded, which is told first: the files of a lawful image over some blocks, and its total.
pub record EndsUnsynced (text : List ℕ) : Type 0 where
  pub geometry : Geometry
  pub image : Image
  pub blocks : ℕ → Block
  pub lawful : IsLawful geometry image
  pub text_is : text ≡ unsynced_line ++ image_lines geometry image blocks

-- The whole run of a script, which begins with a volume: that it was made, the line of each step, and what its end tells of the
-- files as they were then.
pub record WroteRun (steps : List Step) (begun : Files) (old new : Option (List ℕ)) : Type 0 where
  pub end : Files
  pub lines : List ℕ
  pub last : List ℕ
  pub run : StepsWrite steps begun end lines
  pub ended : EndsClosed end last ⊎ EndsUnsynced last
  pub told : Appends old new ((format_line ++ lines) ++ last)

-- a whole run of these steps on a volume without files
pub record WroteScript (steps : List Step) (old new : Option (List ℕ)) : Type 0 where
  pub geometry : Geometry
  pub run : WroteRun steps (no_files geometry) old new

-- a whole run of some script
abbrev pub WroteSomeScript : Option (List ℕ) → Option (List ℕ) → Type 0
WroteSomeScript old new = (steps : List Step) × WroteScript steps old new

-- whether a line of the script is why it stops
abbrev pub names_line : Stop → Bool
names_line (BadLine line) = true
names_line (Refused error) = false
names_line NoMemory = false
names_line Failed = false
