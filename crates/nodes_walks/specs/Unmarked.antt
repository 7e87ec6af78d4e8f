-- A file whose inode was written.
use Rattle.std.specs.Prelude.{false}
use Rattle.nodes.specs.declared.file.FileState.{FileState}

-- a file whose inode's block was written
abbrev pub unmarked : {B L : Type 0} → FileState B L → FileState B L
unmarked f = record f {
  resized = false;
  tickets = record f.tickets { dirty = false };
  direct = record f.direct { dirty = false };
  indirect = record f.indirect { dirty = false };
  double = record f.double { dirty = false };
}
