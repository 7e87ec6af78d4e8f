use Rattle.std.proofs.Common.{◌≡◌, ◌≤◌, ◌-◌, ℕ, List, take, drop, vec_len}
use Rattle.std.specs.Io.KnownBytes.{Appends}
use Rattle.geometry.specs.Area.{meta_bytes}
use Rattle.image_reading.specs.Told.{Narrows}
use Rattle.image_reading.proofs.upgrading.copy_blocks.Given as goal

abbrev pub invariant-loop-at : goal.invariant-loop-at
invariant-loop-at g l = record {
  copied : (bytes : List ℕ) → g.S.ImageSource.shows l.source bytes
      → Appends (g.O.Write.contents l.fn.out) (g.O.Write.contents l.out) (take (l.at - meta_bytes l.fn.geometry) (drop (meta_bytes l.fn.geometry) bytes));
  kept : Narrows (g.S.ImageSource.shows l.fn.source) (g.S.ImageSource.shows l.source);
  behind : meta_bytes l.fn.geometry ≤ l.at;
  reaches : l.at ≤ l.end;
  buffer : vec_len l.buffer ≡ vec_len l.initial.buffer;
}

abbrev pub decreases-loop-at : goal.decreases-loop-at
decreases-loop-at g l = l.end - l.at
