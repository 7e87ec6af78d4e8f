use Rattle.std.proofs.Common.{◌≡◌, length}
use Rattle.geometry.specs.Shape.{block_bytes}
use Rattle.named_files.proofs.Contents.{Writing}
use Rattle.named_files.proofs.content.write_all.Given as goal

abbrev pub invariant-loop-rest : goal.invariant-loop-rest
invariant-loop-rest g l =
    Writing (block_bytes g.V.Numbers.GeometryName.geometry.shape) l.fn.bytes l.rest l.pass.file l.index × (l.pass.number ≡ l.fn.pass.number) × (l.pass.file.kind ≡ l.fn.pass.file.kind)

abbrev pub decreases-loop-rest : goal.decreases-loop-rest
decreases-loop-rest g l = length l.rest
