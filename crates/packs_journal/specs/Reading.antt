-- How a meta area gives the body of each of its two packs: the pages that the pack's map names, with the changes of its journal.
use Rattle.std.specs.Prelude.{ℕ, zero, suc, if◌then◌else◌, List, [], ◌++◌, take}
use Rattle.byteorder.specs.Endian.{little_number}
use Rattle.device.specs.Disk.{part}
use Rattle.image.specs.Reading.{number_at}
use Rattle.image.specs.Slots.{Slot}
use Rattle.packs_journal.specs.Places.{head_at, footer_at, page_count, page_at, page_size, head_bytes}
use Rattle.packs_journal.specs.Journal.{map_of, changes_of, copy_in, patched, is_head}

abbrev pub head_in : ℕ → List ℕ → List ℕ
head_in slot area = part (head_at slot) head_bytes area

-- the copy of page k that counts by a map
abbrev pub page_in : ℕ → List ℕ → ℕ → List ℕ → List ℕ
page_in len map k area = part (page_at k (copy_in map k)) (page_size len k) area

-- the first n pages, one after the other
unfoldable pub gathered : ℕ → List ℕ → ℕ → List ℕ → List ℕ
gathered len map zero area = []
gathered len map (suc n) area = gathered len map n area ++ page_in len map n area

-- the rest of a body, by a head; without one there is none, so that the body is too short to spell tables
abbrev pub rest_by : ℕ → List ℕ → List ℕ → List ℕ
rest_by len head area =
    if is_head len head then patched (changes_of head) (number_at head 56) (gathered len (map_of head) (page_count len) area) else []

unfoldable pub assembled : ℕ → ℕ → List ℕ → List ℕ
assembled len slot area = take 56 (head_in slot area) ++ rest_by len (head_in slot area) area

abbrev pub footer_in : ℕ → List ℕ → ℕ
footer_in slot area = little_number 4 (part (footer_at slot) 4 area)

-- the slots that an area holds
abbrev pub slots_in : ℕ → List ℕ → ℕ → Slot
slots_in len area slot = record { body = assembled len slot area; footer = footer_in slot area }
