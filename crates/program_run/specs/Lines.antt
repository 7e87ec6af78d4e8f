-- The lines that the program writes.
use Rattle.std.specs.Prelude.{ℕ, zero, suc, List, [], ◌∷◌, ◌++◌, codes, Option, Some, None, Result, Ok, Err}
use Rattle.std.specs.Fmt.{decimal}
use Rattle.std.specs.List.{flat_map}
use Rattle.geometry.specs.Shape.{block_bytes}
use Rattle.geometry.specs.declared.shape.Shape.{Shape}
use Rattle.geometry.specs.File.{Block, File, bytes_at}
use Rattle.geometry.specs.declared.geometry.Geometry.{Geometry}
use Rattle.geometry.specs.declared.error.Error.{Error}
use Rattle.geometry.specs.declared.error.Error.TheVariants.{NoMemory, Device, NoSpace, NoFile, NoNode, TooFar, BadLength, Wounded, BadGeometry, NoPack, BadImage, PassesOut, SeatsOut, Exhausted}
use Rattle.geometry.specs.Refusal.{number_of}
use Rattle.image.specs.Image.{Image}
use Rattle.image.specs.Free.{free_count}
use Rattle.image.specs.Files.{files as files_of}
use Rattle.program_script.specs.Numeral.{hex_text}
use Rattle.file_cells.specs.declared.status.Status.{Status}
use Rattle.cleaning.specs.declared.section.Cleaned.{Cleaned}
use Rattle.program_run.specs.declared.content.Content.{Content}
use Rattle.program_run.specs.declared.synced.Synced.{Synced}
use Rattle.program_run.specs.declared.content.Content.TheVariants.{Equal, Mixed}
use Rattle.program_run.specs.Contents.{content_of}

-- a line ends with a line feed
abbrev pub newline : List ℕ
newline = 10 ∷ []

-- a version, a total, and how many segments are free
abbrev pub numbers_line : ℕ → ℕ → ℕ → List ℕ
numbers_line version total free =
    codes "version " ++ decimal version ++ codes " total " ++ decimal total ++ codes " free " ++ decimal free ++ newline

abbrev pub image_line : Geometry → Image → List ℕ
image_line geometry image = numbers_line image.version image.total (free_count geometry image)

-- what a refusal is called
abbrev pub name_of : Error → List ℕ
name_of NoMemory = codes "NoMemory"
name_of Device = codes "Device"
name_of NoSpace = codes "NoSpace"
name_of NoFile = codes "NoFile"
name_of NoNode = codes "NoNode"
name_of TooFar = codes "TooFar"
name_of BadLength = codes "BadLength"
name_of Wounded = codes "Wounded"
name_of BadGeometry = codes "BadGeometry"
name_of NoPack = codes "NoPack"
name_of (BadImage fault) = codes "BadImage"
name_of (PassesOut count) = codes "PassesOut"
name_of (SeatsOut count) = codes "SeatsOut"
name_of Exhausted = codes "Exhausted"

-- the number beside the name, where there is one
abbrev pub detail_of : Error → List ℕ
detail_of (BadImage fault) = codes " " ++ decimal fault
detail_of (PassesOut count) = codes " " ++ decimal count
detail_of (SeatsOut count) = codes " " ++ decimal count
detail_of other = []

-- a refusal's number and name
abbrev pub refusal_line : Error → List ℕ
refusal_line error = codes "refused " ++ decimal (number_of error) ++ codes " " ++ name_of error ++ detail_of error ++ newline

-- a command that was done, or its refusal
abbrev pub done_line : Result (Unit {0}) Error → List ℕ
done_line (Ok done) = codes "ok" ++ newline
done_line (Err error) = refusal_line error

-- the number of a file that was made, or why there is none
abbrev pub created_line : Result ℕ Error → List ℕ
created_line (Ok number) = codes "file " ++ decimal number ++ newline
created_line (Err error) = refusal_line error

-- the byte that a block is full of, or that there is none
abbrev pub content_text : Content → List ℕ
content_text (Equal byte) = codes " " ++ hex_text byte
content_text Mixed = codes " mixed"

-- what stands at an index, or that it is past the end
abbrev pub found_text : Option Content → List ℕ
found_text (Some content) = content_text content
found_text None = codes " end"

-- what was read at an index of a file, or why it could not be read
abbrev pub read_line : ℕ → ℕ → Result (Option Content) Error → List ℕ
read_line file index (Ok found) = codes "read " ++ decimal file ++ codes " " ++ decimal index ++ found_text found ++ newline
read_line file index (Err error) = refusal_line error

-- the texts of the numbers below this one, one behind the other
abbrev pub texts_below : ℕ → (ℕ → List ℕ) → List ℕ
texts_below zero text = []
texts_below (suc count) text = texts_below count text ++ text count

-- a file's number and its length
abbrev pub head_text : ℕ → File → List ℕ
head_text number file = codes "file " ++ decimal number ++ codes " length " ++ decimal file.length

-- what the block of a file at an index is told as
abbrev pub block_text : Shape → File → ℕ → List ℕ
block_text shape file index = content_text (content_of (bytes_at (block_bytes shape) file index))

-- a file's number, its length, and each of its blocks
abbrev pub file_line : Shape → ℕ → File → List ℕ
file_line shape number file = (head_text number file ++ texts_below file.length (block_text shape file)) ++ newline

-- the line of each of these numbers with its file, in order
abbrev pub lines_of : Shape → List (ℕ × File) → List ℕ
lines_of shape files = flat_map (λ file. file_line shape file.0 file.1) files

-- how many blocks are valid in an image
abbrev pub total_line : ℕ → List ℕ
total_line total = codes "total " ++ decimal total ++ newline

-- the line of each file of an image over these blocks, in the order of their numbers, and then its total
abbrev pub image_lines : Geometry → Image → (ℕ → Block) → List ℕ
image_lines geometry image blocks = lines_of geometry.shape (files_of geometry image blocks) ++ total_line image.total

-- that a volume was left without a checkpoint
abbrev pub unsynced_line : List ℕ
unsynced_line = codes "closed without sync" ++ newline

-- how many segments are in each state
abbrev pub status_line : Status → List ℕ
status_line s =
    codes "free " ++ decimal s.free ++ codes " prefree " ++ decimal s.prefree ++ codes " open " ++ decimal s.opened ++ codes " sealed " ++ decimal s.sealed ++ newline

-- the numbers of the image that a checkpoint wrote, or why none was written
abbrev pub synced_line : Result Synced Error → List ℕ
synced_line (Ok synced) = numbers_line synced.version synced.total synced.free
synced_line (Err error) = refusal_line error

-- the section that was cleaned, how many of its blocks were moved, and how many were gone; or that there was none, or the refusal
abbrev pub section_text : Option ℕ → ℕ → ℕ → List ℕ
section_text None moved gone = codes "none"
section_text (Some section) moved gone = codes "section " ++ decimal section ++ codes " moved " ++ decimal moved ++ codes " gone " ++ decimal gone

abbrev pub cleaned_line : Result Cleaned Error → List ℕ
cleaned_line (Ok c) = codes "clean " ++ section_text c.section c.moved c.gone ++ newline
cleaned_line (Err error) = refusal_line error

-- the number of a reader that was taken, or why there is none
abbrev pub taken_line : Result ℕ Error → List ℕ
taken_line (Ok number) = codes "reader " ++ decimal number ++ newline
taken_line (Err error) = refusal_line error

abbrev pub look_text : ℕ → List ℕ
look_text number = codes "look " ++ decimal number

-- a reader's number, and each block of the file that it shows
abbrev pub look_line : Shape → ℕ → File → List ℕ
look_line shape number file = (look_text number ++ texts_below file.length (block_text shape file)) ++ newline
