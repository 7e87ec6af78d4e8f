use Rattle.std.proofs.Common.{◌≡◌, ◌-◌, ◌≤◌, length}
use Rattle.volume_format.proofs.front.write_zeros.Given as goal

abbrev pub invariant-chunks : goal.invariant-chunks
invariant-chunks g l = (length (g.M.Meta.seen l.meta) ≡ length (g.M.Meta.seen l.fn.meta)) × (l.at ≤ length (g.M.Meta.seen l.fn.meta)) × (g.M.Meta.failed l.fn.meta ≤ g.M.Meta.failed l.meta)

abbrev pub decreases-chunks : goal.decreases-chunks
decreases-chunks g l = length (g.M.Meta.seen l.fn.meta) - l.at
