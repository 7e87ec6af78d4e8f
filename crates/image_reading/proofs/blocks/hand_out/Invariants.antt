use Rattle.std.proofs.Common.{◌≡◌, ◌≤◌, ◌-◌, ℕ, List, vec_len}
use Rattle.geometry.specs.Shape.{block_bytes}
use Rattle.image.specs.View.{image_view}
use Rattle.image_reading.specs.Held.{file_in}
use Rattle.image_reading.specs.Told.{Narrows}
use Rattle.image_reading.proofs.Handing.{Handing}
use Rattle.image_reading.proofs.blocks.hand_out.Given as goal

abbrev pub invariant-loop-index : goal.invariant-loop-index
invariant-loop-index g l = record {
  handing : (bytes : List ℕ) → g.S.ImageSource.shows l.source bytes
      → Handing (block_bytes l.fn.geometry.shape) l.fn.most (file_in l.fn.geometry (image_view l.fn.image) bytes l.fn.number) l.index l.left (g.O.Write.contents l.fn.out) (g.O.Write.contents l.out);
  kept : Narrows (g.S.ImageSource.shows l.fn.source) (g.S.ImageSource.shows l.source);
  reaches : l.index ≤ l.length;
  buffer : vec_len l.buffer ≡ vec_len l.initial.buffer;
}

abbrev pub decreases-loop-index : goal.decreases-loop-index
decreases-loop-index g l = l.length - l.index
