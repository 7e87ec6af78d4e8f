use Rattle.std.proofs.Common.{ℕ, ◌<◌, length, vec_len}
use Rattle.std.specs.Prelude.{slice_index_or}
use Rattle.image.specs.Image.{Image}
use Rattle.mount_blocks.proofs.entries.free_rooms.Given as goal

abbrev pub invariant-loop-room : goal.invariant-loop-room
invariant-loop-room g l = (k : ℕ) (other : g.row.C-Room.Denot) → k < length l.below.items → (image : Image) × (number : ℕ) × g.C.Load.roomy image number (slice_index_or l.below.items k other)

abbrev pub decreases-loop-room : goal.decreases-loop-room
decreases-loop-room g l = vec_len l.below
