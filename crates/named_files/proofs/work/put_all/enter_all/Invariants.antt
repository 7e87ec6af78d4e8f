use Rattle.std.proofs.Common.{map}
use Rattle.geometry.specs.Shape.{block_bytes}
use Rattle.named_folder.specs.Rows.{row_of}
use Rattle.named_files.proofs.Many.{Entering}
use Rattle.named_files.proofs.work.put_all.enter_all.Given as goal

abbrev pub invariant-loop-index : goal.invariant-loop-index
invariant-loop-index g l =
    Entering (block_bytes g.V.Numbers.GeometryName.geometry.shape) l.fn.work.files.now l.index (map row_of l.fn.entries.items) (map row_of l.entries.items) l.fn.passes.items l.passes.items
