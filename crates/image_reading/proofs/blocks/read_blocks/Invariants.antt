use Rattle.std.proofs.Common.{◌≡◌, ◌-◌, ◌*◌, ◌++◌, ℕ, List, take}
use Rattle.geometry.specs.Shape.{block_bytes}
use Rattle.image.specs.View.{image_view}
use Rattle.image_reading.specs.Content.{front_bytes}
use Rattle.image_reading.specs.Held.{file_in}
use Rattle.image_reading.specs.Told.{Narrows}
use Rattle.image_reading.proofs.blocks.read_blocks.Given as goal

abbrev pub invariant-loop-index : goal.invariant-loop-index
invariant-loop-index g l =
    let size = block_bytes l.fn.geometry.shape in
    record {
      read : (bytes : List ℕ) → g.S.ImageSource.shows l.source bytes → let file = file_in l.fn.geometry (image_view l.fn.image) bytes l.fn.number in
          front_bytes size file l.fn.first ++ take ((l.index - l.fn.first) * size) l.out ≡ front_bytes size file l.index;
      kept : Narrows (g.S.ImageSource.shows l.fn.source) (g.S.ImageSource.shows l.source);
    }
