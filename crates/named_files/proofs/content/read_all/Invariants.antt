use Rattle.std.proofs.Common.{◌≡◌, length}
use Rattle.geometry.specs.Shape.{block_bytes}
use Rattle.image_reading.specs.Content.{front_bytes}
use Rattle.named_files.proofs.content.read_all.Given as goal

abbrev pub invariant-loop-index : goal.invariant-loop-index
invariant-loop-index g l =
    (l.bytes.items ≡ front_bytes (block_bytes g.V.Numbers.GeometryName.geometry.shape) l.fn.pass.file l.index) × (length l.block.items ≡ block_bytes g.V.Numbers.GeometryName.geometry.shape)
