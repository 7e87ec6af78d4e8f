use Rattle.nodes.specs.Lacking.{lacking_to}
use Rattle.file_cells.specs.Beside.{ServesBeside, HasLawBeside}
use Rattle.file_cells.proofs.path.prepare_path.Given as goal

abbrev pub invariant-lacking : goal.invariant-lacking
invariant-lacking g l = record {
  serves : ServesBeside l.file l.file l.initial.spares l.spares l.initial.hand l.hand;
  law : HasLawBeside g.V.Numbers.GeometryName.geometry.files l.file l.spares;
}

abbrev pub decreases-lacking : goal.decreases-lacking
decreases-lacking g l = lacking_to l.file l.index l.spares
