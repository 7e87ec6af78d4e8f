use Rattle.std.proofs.Common.{◌≡◌, ◌<◌, ◌≤◌, ℕ, length, true}
use Rattle.geometry.specs.Area.{block_count}
use Rattle.image.specs.Image.{is_marked}
use Rattle.image.specs.View.{image_view}
use Rattle.file_device.specs.Named.{IsSet, StaySet}
use Rattle.file_device.proofs.named.flag_valid.Given as goal

abbrev pub invariant-loop-place : goal.invariant-loop-place
invariant-loop-place l = record {
  long : length l.flags ≡ block_count l.fn.geometry;
  stay : StaySet l.fn.flags l.flags;
  valid : (address : ℕ) → 0 < address → address ≤ l.place → is_marked l.fn.geometry (image_view l.fn.tables) address ≡ true → IsSet l.flags address;
}
