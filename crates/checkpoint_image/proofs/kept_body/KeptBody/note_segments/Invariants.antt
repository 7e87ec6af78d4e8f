use Rattle.std.proofs.Common.{◌≡◌, ◌<◌, ◌+◌, ℕ, map, length, Some}
use Rattle.std.specs.Prelude.{slice_get}
use Rattle.image.specs.Pack.{body_bytes}
use Rattle.sit.specs.Registered.{Registered}
use Rattle.sit.specs.Noted.{segment_row}
use Rattle.checkpoint_image.specs.Kept.{row_at}
use Rattle.checkpoint_image.specs.Noting.{KeepsNumbers}
use Rattle.checkpoint_image.specs.Touched.{AreTouched}
use Rattle.checkpoint_image.proofs.kept_body.KeptBody.note_segments.Given as goal

abbrev pub invariant-loop-number : goal.invariant-loop-number
invariant-loop-number g l = record {
  same : map g.S.HoldsSegment.shown l.segments.items ≡ map g.S.HoldsSegment.shown l.fn.segments.items;
  there : 0 < length l.self.body.bytes.items;
  noted : (k : ℕ) (r : Registered) → k < l.number → slice_get (map g.S.HoldsSegment.shown l.fn.segments.items) k ≡ Some r → row_at l.self.twins.items k ≡ segment_row r.segment;
  touched : AreTouched (body_bytes l.fn.self.geometry) l.fn.self.body l.self.body;
  numbers : KeepsNumbers l.fn.self l.self;
}
