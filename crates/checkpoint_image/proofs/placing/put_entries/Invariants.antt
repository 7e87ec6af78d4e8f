use Rattle.std.proofs.Common.{◌≡◌, ◌≢◌, ◌<◌, ◌≤◌, ◌+◌, ◌*◌, ◌%◌, ℕ, length}
use Rattle.device.specs.Disk.{part}
use Rattle.image.specs.Pack.{body_bytes, entry_bytes}
use Rattle.image_law.specs.Parts.{found}
use Rattle.checkpoint_image.specs.Cells.{shard_part}
use Rattle.checkpoint_image.specs.Kept.{infos_at, row_in}
use Rattle.checkpoint_image.specs.Touched.{AreTouched}
use Rattle.checkpoint_image.proofs.placing.put_entries.Given as goal

abbrev pub invariant-loop-round : goal.invariant-loop-round
invariant-loop-round g l = record {
  own : (k : ℕ) → k < l.geometry.nodes → (k + 1) % 16 ≡ l.number → k + 1 < 16 * l.round + l.number
      → row_in 56 8 k l.body.bytes.items ≡ entry_bytes (found (k + 1) (shard_part l.shard));
  others : (k : ℕ) → k < l.geometry.nodes → (k + 1) % 16 ≢ l.number → row_in 56 8 k l.body.bytes.items ≡ row_in 56 8 k l.fn.body.bytes.items;
  behind : (p n : ℕ) → infos_at l.geometry ≤ p → part p n l.body.bytes.items ≡ part p n l.fn.body.bytes.items;
  long : length l.body.bytes.items ≡ length l.fn.body.bytes.items;
  touched : AreTouched (body_bytes l.geometry) l.fn.body l.body;
}
