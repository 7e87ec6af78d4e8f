use Rattle.std.proofs.Common.{map, take}
use Rattle.std.specs.Io.KnownBytes.{Appends}
use Rattle.program_run.specs.Lines.{lines_of}
use Rattle.program_run.proofs.Texts.{pair}
use Rattle.program_run.proofs.telling.tell_volume.Given as goal

abbrev pub invariant-loop-pass : goal.invariant-loop-pass
invariant-loop-pass g l =
    Appends (g.O.Write.contents l.fn.out) (g.O.Write.contents l.out) (lines_of g.V.Numbers.GeometryName.geometry.shape (map pair (take l.pass-index l.passes)))
