use Rattle.std.proofs.Common.{◌++◌}
use Rattle.std.specs.Io.KnownBytes.{Appends}
use Rattle.program_run.specs.Lines.{block_text, head_text, texts_below}
use Rattle.program_run.proofs.telling.tell_pass.Given as goal

abbrev pub invariant-loop-index : goal.invariant-loop-index
invariant-loop-index g l =
    Appends (g.O.Write.contents l.fn.out) (g.O.Write.contents l.out)
    (head_text l.pass.number l.pass.file ++ texts_below l.index (block_text g.V.Numbers.GeometryName.geometry.shape l.pass.file))
