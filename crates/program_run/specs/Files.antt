-- What contracts see of a volume under a script: its numbers, its files by their passes, and the readers of its files.
use Rattle.std.specs.Prelude.{◌≡◌, ◌<◌, ℕ, ◌+◌, ◌-◌, List, [], ◌∷◌, ◌++◌, length, map, Option, Some, None, IsSome, replicate, slice_index_or, slice_set}
use Rattle.std.specs.List.{filter_map}
use Rattle.geometry.specs.File.{File, new_file}
use Rattle.geometry.specs.declared.geometry.Geometry.{Geometry}
use Rattle.geometry.specs.declared.kind.Kind.TheVariants.{File as OrdinaryFile}
use Rattle.file_cells.specs.Pass.{Pass}
use Rattle.flash_volume.specs.Rounds.{Held}
use Rattle.file_cells.specs.Reader.{SnapshotOf}

-- its numbers, the time that was set, for each inode number from 1 on, in order, the pass of the file of that number, if there
-- is one, and each reader that was taken, in order, while it is open
pub record Files : Type 0 where
  pub geometry : Geometry
  pub time : ℕ
  pub passes : List (Option Pass)
  pub readers : List (Option SnapshotOf)

-- there is one place for each of so many inode numbers, and a pass stands at that of its file
pub record StandInPlace (files : ℕ) (passes : List (Option Pass)) : Type 0 where
  pub count : length passes ≡ files
  pub numbers : (k : ℕ) (pass : Pass) → slice_index_or passes k None ≡ Some pass → pass.number ≡ k + 1

abbrev pub ArePlaced : Files → Type 0
ArePlaced files = StandInPlace files.geometry.files files.passes

-- the passes that are there, in the order of their places
abbrev pub passes_among : List (Option Pass) → List Pass
passes_among places = filter_map (λ place. place) places

-- these are passes of different files, in the order of their numbers
pub record AreInOrder (files : ℕ) (passes : List Pass) : Type 0 where
  pub places : List (Option Pass)
  pub placed : StandInPlace files places
  pub are : passes ≡ passes_among places

-- the pass of the file of a number
abbrev pub pass_at : Files → ℕ → Option Pass
pass_at files number = slice_index_or files.passes (number - 1) None

-- its files with their numbers, in order
abbrev pub shown_files : Files → List (ℕ × File)
shown_files files = map (λ pass. (pass.number, pass.file)) (passes_among files.passes)

-- there is a file of this number
abbrev pub HasFile : Files → ℕ → Type 0
HasFile files number = (0 < number) × IsSome (pass_at files number)

-- the file of a pass; without a pass, an empty one
abbrev pub file_of : Option Pass → File
file_of None = new_file OrdinaryFile
file_of (Some pass) = pass.file

-- the file of a number; without such a file, an empty one
abbrev pub file_at : Files → ℕ → File
file_at files number = file_of (pass_at files number)

-- the file of this number is this one, and no other is changed
abbrev pub with_file : Files → ℕ → File → Files
with_file files number file = record files { passes = slice_set files.passes (number - 1) (Some (record { number = number; file = file })) }

-- the file of this number is gone, and no other is changed
abbrev pub without_file : Files → ℕ → Files
without_file files number = record files { passes = slice_set files.passes (number - 1) None }

-- a volume of these numbers has no file, and no reader was taken, at time 0
abbrev pub no_files : Geometry → Files
no_files geometry = record { geometry = geometry; time = 0; passes = replicate geometry.files None; readers = [] }

-- the reader that was taken as the one of a number, counted from 1 on, while it is open
abbrev pub reader_at : Files → ℕ → Option SnapshotOf
reader_at files number = slice_index_or files.readers (number - 1) None

-- the reader of this number is open
abbrev pub HasReader : Files → ℕ → Type 0
HasReader files number = (0 < number) × IsSome (reader_at files number)

-- how many readers are open
abbrev pub open_count : List (Option SnapshotOf) → ℕ
open_count readers = length (filter_map (λ reader. reader) readers)

-- the file that a reader shows; without a reader, an empty one
abbrev pub shown_by : Option SnapshotOf → File
shown_by None = new_file OrdinaryFile
shown_by (Some reader) = reader.file

-- one more reader was taken
abbrev pub with_reader : Files → SnapshotOf → Files
with_reader files reader = record files { readers = files.readers ++ Some reader ∷ [] }

-- the reader of this number is closed, and no other
abbrev pub without_reader : Files → ℕ → Files
without_reader files number = record files { readers = slice_set files.readers (number - 1) None }

-- the first place that has no pass
pub record IsFirstFree (passes : List (Option Pass)) (place : ℕ) : Type 0 where
  pub within : place < length passes
  pub free : slice_index_or passes place None ≡ None
  pub least : (k : ℕ) → k < place → IsSome (slice_index_or passes k None)

-- each place has a pass
abbrev pub AreAllTaken : List (Option Pass) → Type 0
AreAllTaken passes = (k : ℕ) → k < length passes → IsSome (slice_index_or passes k None)

-- the least inode number that has no file
abbrev pub IsLeastFree : Files → ℕ → Type 0
IsLeastFree files number = (0 < number) × IsFirstFree files.passes (number - 1)

-- these numbers and time, the files of these passes, and so many readers that are closed
pub record IsOpened (geometry : Geometry) (passes : List Pass) (time readers : ℕ) (files : Files) : Type 0 where
  pub numbers : files.geometry ≡ geometry
  pub placed : ArePlaced files
  pub passes_are : passes_among files.passes ≡ passes
  pub time_is : files.time ≡ time
  pub closed : files.readers ≡ replicate readers None

-- these numbers and time, and the files of these passes and these readers, which are what is lent
pub record Lends (geometry : Geometry) (time : ℕ) (files : Files) (held : Held) : Type 0 where
  pub numbers : files.geometry ≡ geometry
  pub placed : ArePlaced files
  pub time_is : files.time ≡ time
  pub passes_are : passes_among files.passes ≡ held.passes
  pub readers_are : files.readers ≡ held.readers
