use Rattle.std.proofs.Common.{◌≡◌}
use Rattle.nodes.specs.Change.{each_marked}
use Rattle.nodes.specs.File.{weight_of}
use Rattle.file_flush.specs.Flushed.{HasFlushed}
use Rattle.file_flush.proofs.flushing.flush_all.Given as goal

abbrev pub invariant-marked : goal.invariant-marked
invariant-marked g l = HasFlushed g.V.Numbers.GeometryName.geometry.files l.fn.file l.file l.fn.hand l.hand × (l.front ≡ 0)

abbrev pub decreases-marked : goal.decreases-marked
decreases-marked g l = weight_of l.file each_marked

abbrev pub invariant-walk : goal.invariant-walk
invariant-walk g l = HasFlushed g.V.Numbers.GeometryName.geometry.files l.fn.file l.file l.fn.hand l.hand

abbrev pub decreases-walk : goal.decreases-walk
decreases-walk g l = weight_of l.file each_marked
