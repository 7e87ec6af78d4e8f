use Rattle.std.proofs.Common.{◌≡◌, ◌<◌, ◌≤◌, ℕ, length, slice_index_or}
use Rattle.image.specs.Image.{no_entry}
use Rattle.file_device.specs.Named.{IsSet, StaySet}
use Rattle.file_device.proofs.named.flag_nodes.Given as goal

abbrev pub invariant-loop-row : goal.invariant-loop-row
invariant-loop-row l = record {
  long : length l.flags ≡ length l.fn.flags;
  stay : StaySet l.fn.flags l.flags;
  nodes : (k : ℕ) → k < l.row → 0 < (slice_index_or l.fn.tables.nat.items k no_entry).address
      → (slice_index_or l.fn.tables.nat.items k no_entry).address ≤ length l.fn.flags → IsSet l.flags (slice_index_or l.fn.tables.nat.items k no_entry).address;
}
