use Rattle.std.proofs.Common.{arith}
use Rattle.file_cells.proofs.status.count_states.Goals as goal

pub add-requires : goal.add-requires
add-requires g c = let most = g.V.Numbers.GeometryName.geometry.limits.segments_fit in let same = c.geometry-number-end.ensures in omega arith
