use Rattle.std.proofs.Common.{◌≡◌, ℕ, List, length, take, map}
use Rattle.geometry.specs.Shape.{block_bytes}
use Rattle.image.specs.Reading.{read_nodes}
use Rattle.image.specs.View.{node_or_none}
use Rattle.pack_tables.specs.File.{block_in, file_bytes}
use Rattle.image_reading.specs.Told.{Narrows}
use Rattle.image_reading.proofs.reading.read_nodes.Given as goal

abbrev pub invariant-loop-entry : goal.invariant-loop-entry
invariant-loop-entry g l = record {
  read : (bytes : List ℕ) → g.S.ImageSource.shows l.source bytes → length bytes ≡ file_bytes l.fn.geometry
      → map node_or_none l.nodes.items ≡ read_nodes l.fn.geometry.shape (block_in l.fn.geometry bytes) (take l.entry-index l.nat);
  kept : Narrows (g.S.ImageSource.shows l.fn.source) (g.S.ImageSource.shows l.source);
  block : length l.block.items ≡ block_bytes l.fn.geometry.shape;
}
