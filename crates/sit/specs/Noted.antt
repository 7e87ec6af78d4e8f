-- What a checkpoint pack spells of a segment (Linux filesystems/f2fs, segment information table and segment summary area).
use Rattle.std.specs.Prelude.{[]}
use Rattle.rights_books.specs.declared.row_claim.Row.{Row}
use Rattle.sit.specs.Segment.{Segment}

-- its time, and who names each of its blocks
abbrev pub segment_row : Segment → Row
segment_row segment = record { mtime = segment.mtime; owners = segment.summaries; nodes = [] }
