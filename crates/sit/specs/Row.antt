-- What a choice of a victim looks at in a segment.
use Rattle.sit.specs.declared.segment.SegmentRow.{SegmentRow}
use Rattle.sit.specs.Bits.{has_true}
use Rattle.sit.specs.Summaries.{count_of}
use Rattle.sit.specs.Segment.{Segment}

abbrev pub row_of : Segment → SegmentRow
row_of segment = record { number = segment.number; state = segment.state; valid = count_of segment.summaries; mtime = segment.mtime; threaded = has_true segment.thread.holes }
