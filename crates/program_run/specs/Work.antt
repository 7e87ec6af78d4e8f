-- What work on a volume's files makes of them, and the line that it writes. Work that is refused leaves the files as they were,
-- but for a range, which is filled up to the refusal.
use Rattle.std.specs.Prelude.{◌≡◌, ◌≢◌, ◌⊎◌, ℕ, zero, suc, ◌+◌, ◌-◌, ◌<◌, ◌≤◌, List, [], length, Option, Some, None, Result, Ok, Err, replicate}
use Rattle.std.specs.Io.KnownBytes.{Appends}
use Rattle.geometry.specs.Shape.{block_bytes}
use Rattle.geometry.specs.File.{Block, File, bytes_at, cut_to, new_file, written}
use Rattle.geometry.specs.declared.error.Error.{Error}
use Rattle.geometry.specs.declared.error.Error.TheVariants.{NoFile, NoMemory, Wounded}
use Rattle.geometry.specs.declared.kind.Kind.{Kind}
use Rattle.program_script.specs.declared.command.WorkerDeed.{WorkerDeed}
use Rattle.program_script.specs.declared.command.WorkerDeed.TheVariants.{Write, Fill, Read, Cut, Clean, Sync, Look}
use Rattle.program_script.specs.declared.command.Cleaning.{Cleaning}
use Rattle.program_script.specs.declared.command.Cleaning.TheVariants.{Foreground as CleanForeground, Background as CleanBackground}
use Rattle.image.specs.Free.{free_count}
use Rattle.image.specs.Image.{Image}
use Rattle.image.specs.Rules.{IsLawful}
use Rattle.cleaning.specs.Cleaning.{IsCleaned}
use Rattle.cleaning.specs.declared.policy.Policy.{Policy}
use Rattle.cleaning.specs.declared.policy.Policy.TheVariants.{Foreground as PolicyForeground, Background as PolicyBackground}
use Rattle.cleaning.specs.declared.section.Cleaned.{Cleaned}
use Rattle.file_cells.specs.Reader.{IsPinned, SnapshotOf}
use Rattle.program_run.specs.Files.{AreAllTaken, Files, HasFile, HasReader, IsLeastFree, file_at, reader_at, shown_by, with_file, with_reader, without_file, without_reader}
use Rattle.program_run.specs.declared.content.Content.{Content}
use Rattle.program_run.specs.declared.synced.Synced.{Synced}
use Rattle.program_run.specs.Contents.{content_of}
use Rattle.program_run.specs.Lines.{cleaned_line, done_line, look_line, read_line, refusal_line, synced_line}

-- no file has this number, and that is the refusal
abbrev pub IsNone : Files → ℕ → Error → Type 0
IsNone files number error = (¬ (HasFile files number)) × (error ≡ NoFile)

-- what a call on a file of this number answers where it is refused: NoFile where there is no such file, and there alone
abbrev pub IsRefused : Files → ℕ → Error → Type 0
IsRefused files number error = (HasFile files number × (error ≢ NoFile)) ⊎ IsNone files number error

-- the same of a call that where there is such a file only a wounded volume refuses
abbrev pub IsRefusedWounded : Files → ℕ → Error → Type 0
IsRefusedWounded files number error = (HasFile files number × (error ≡ Wounded)) ⊎ IsNone files number error

-- a file was made under the least free number, or not: NoFile only where each number has a file
abbrev pub IsCreated : Files → Kind → Result ℕ Error → Files → Type 0
IsCreated old kind (Ok number) new = IsLeastFree old number × (new ≡ with_file old number (new_file kind))
IsCreated old kind (Err error) new = (error ≡ NoFile → AreAllTaken old.passes) × (new ≡ old)

-- a block whose bytes are all this one
abbrev pub equal_block : Files → ℕ → Block
equal_block files byte = replicate (block_bytes files.geometry.shape) byte

-- a block of equal bytes was written at an index, or not
abbrev pub IsWritten : Files → ℕ → ℕ → ℕ → Result (Unit {0}) Error → Files → Type 0
IsWritten old number index byte (Ok done) new =
    HasFile old number × (new ≡ with_file old number (written (file_at old number) index (equal_block old byte)))
IsWritten old number index byte (Err error) new = IsRefused old number error × (new ≡ old)

-- the block is written at so many indexes in turn
abbrev pub filled : File → ℕ → ℕ → Block → File
filled file first zero block = file
filled file first (suc count) block = written (filled file first count block) (first + count) block

-- the file has the block at so many indexes from the first on
abbrev pub IsFilledTo : Files → ℕ → ℕ → ℕ → ℕ → Files → Type 0
IsFilledTo old number first count byte new =
    HasFile old number × (new ≡ with_file old number (filled (file_at old number) first count (equal_block old byte)))

-- such a block was written at each index from the first to the one before the last, or up to a refusal, which is NoFile
-- where there is no such file, and there alone
abbrev pub IsFilled : Files → ℕ → ℕ → ℕ → ℕ → Result (Unit {0}) Error → Files → Type 0
IsFilled old number first last byte (Ok done) new = IsFilledTo old number first (last - first) byte new
IsFilled old number first last byte (Err error) new =
    ((count : ℕ) × (first + count < last) × IsFilledTo old number first count byte new × (error ≢ NoFile))
    ⊎ (IsNone old number error × (new ≡ old))

-- what stands at an index of a file was read
abbrev pub IsFound : Files → ℕ → ℕ → Result (Option Content) Error → Type 0
IsFound files number index (Ok (Some content)) =
    HasFile files number × (index < (file_at files number).length)
    × (content ≡ content_of (bytes_at (block_bytes files.geometry.shape) (file_at files number) index))
IsFound files number index (Ok None) = HasFile files number × ((file_at files number).length ≤ index)
IsFound files number index (Err error) = IsRefused files number error

-- a file was cut, or not
abbrev pub IsCut : Files → ℕ → ℕ → Result (Unit {0}) Error → Files → Type 0
IsCut old number length (Ok done) new = HasFile old number × (new ≡ with_file old number (cut_to (file_at old number) length))
IsCut old number length (Err error) new = IsRefusedWounded old number error × (new ≡ old)

-- a file was deleted, or not
abbrev pub IsDeleted : Files → ℕ → Result (Unit {0}) Error → Files → Type 0
IsDeleted old number (Ok done) new = HasFile old number × (new ≡ without_file old number)
IsDeleted old number (Err error) new = IsRefusedWounded old number error × (new ≡ old)

-- the policy that a script names
abbrev pub policy_of : Cleaning → Policy
policy_of CleanForeground = PolicyForeground
policy_of CleanBackground = PolicyBackground

-- a section was chosen at the time that was set, and cleaned; or the clean was refused
abbrev pub IsTidied : Files → Cleaning → Result Cleaned Error → Type 0
IsTidied files cleaning (Ok c) = IsCleaned files.geometry (policy_of cleaning) files.time c.rows.items c.section c.moved c.gone
IsTidied files cleaning (Err error) = error ≢ NoFile

-- a lawful image was written, which has these numbers; or the checkpoint was refused
abbrev pub IsSynced : Files → Result Synced Error → Type 0
IsSynced files (Ok synced) =
    (image : Image) × IsLawful files.geometry image
    × (synced.version ≡ image.version) × (synced.total ≡ image.total) × (synced.free ≡ free_count files.geometry image)
IsSynced files (Err error) = error ≢ NoFile

-- a reader of a file as it is now was taken, with the next number, and the segment of each block of the file is pinned; or not
abbrev pub IsTaken : Files → ℕ → Result ℕ Error → Files → Type 0
IsTaken old number (Ok reader) new =
    HasFile old number × (reader ≡ length old.readers + 1)
    × ((shown : SnapshotOf) × (shown.file ≡ file_at old number) × IsPinned shown × (new ≡ with_reader old shown))
IsTaken old number (Err error) new = IsRefused old number error × (new ≡ old)

-- a reader was closed, or not: NoFile where no such reader is open, and there alone
abbrev pub IsClosed : Files → ℕ → Result (Unit {0}) Error → Files → Type 0
IsClosed old number (Ok done) new = HasReader old number × (new ≡ without_reader old number)
IsClosed old number (Err error) new =
    ((HasReader old number × (error ≡ NoMemory)) ⊎ ((¬ (HasReader old number)) × (error ≡ NoFile))) × (new ≡ old)

-- what a reader shows was told, or that no such reader is open
abbrev pub IsLooked : Files → ℕ → List ℕ → Type 0
IsLooked files number line =
    (HasReader files number × (line ≡ look_line files.geometry.shape number (shown_by (reader_at files number))))
    ⊎ ((¬ (HasReader files number)) × (line ≡ refusal_line NoFile))

-- work was done or refused, and wrote its line
abbrev pub WorkWrites : WorkerDeed → Files → Files → List ℕ → Type 0
WorkWrites (Write file index byte) old new line =
    (done : Result (Unit {0}) Error) × IsWritten old file index byte done new × (line ≡ done_line done)
WorkWrites (Fill file first last byte) old new line =
    (done : Result (Unit {0}) Error) × IsFilled old file first last byte done new × (line ≡ done_line done)
WorkWrites (Read file index) old new line =
    (found : Result (Option Content) Error) × IsFound old file index found × (new ≡ old) × (line ≡ read_line file index found)
WorkWrites (Cut file length) old new line =
    (done : Result (Unit {0}) Error) × IsCut old file length done new × (line ≡ done_line done)
WorkWrites (Clean cleaning) old new line =
    (cleaned : Result Cleaned Error) × IsTidied old cleaning cleaned × (new ≡ old) × (line ≡ cleaned_line cleaned)
WorkWrites (Look reader) old new line = IsLooked old reader line × (new ≡ old)
WorkWrites Sync old new line =
    (synced : Result Synced Error) × IsSynced old synced × (new ≡ old) × (line ≡ synced_line synced)

-- a line like this was written, and nothing else
pub record Wrote (IsLine : List ℕ → Type 0) (old new : Option (List ℕ)) : Type 0 where
  pub line : List ℕ
  pub is_line : IsLine line
  pub told : Appends old new line
