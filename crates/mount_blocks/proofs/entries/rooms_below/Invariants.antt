use Rattle.std.proofs.Common.{◌≡◌, ℕ, ◌<◌, ◌≤◌, ◌-◌, length}
use Rattle.std.specs.Prelude.{slice_index, slice_index_or}
use Rattle.std.specs.Vec.{vec_capacity}
use Rattle.image.specs.View.{image_view}
use Rattle.mount_blocks.proofs.entries.rooms_below.Given as goal

abbrev pub invariant-loop-place : goal.invariant-loop-place
invariant-loop-place g l = record {
  made : length l.below.items ≡ l.place;
  enough : length l.numbers ≤ vec_capacity l.below;
  rooms : (k : ℕ) (other : g.row.C-Room.Denot) → k < length l.below.items → g.C.Load.roomy (image_view l.image) (slice_index l.numbers (length l.numbers - 1 - k)) (slice_index_or l.below.items k other);
}
