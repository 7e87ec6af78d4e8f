-- What a block of an image file shows.
use Rattle.std.specs.Prelude.{ℕ, List, Bool}
use Rattle.std.specs.Arc.{arc_value}
use Rattle.file_device.specs.declared.block.FileBlock.{FileBlock}
use Rattle.file_device.specs.Held.{content_in, is_read, place_in}

abbrev pub content_of : {S : Type 0} → FileBlock S → List ℕ
content_of block = content_in (arc_value block.kept) block.address

-- whether its bytes are kept, and not shown as zeros
abbrev pub is_kept : {S : Type 0} → FileBlock S → Bool
is_kept block = is_read (arc_value block.kept).held

-- where in the file it begins
abbrev pub place_of : {S : Type 0} → FileBlock S → ℕ
place_of block = place_in (arc_value block.kept) block.address
