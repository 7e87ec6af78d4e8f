use Rattle.std.proofs.Common.{◌≤◌, vec_len, vec_capacity}
use Rattle.geometry.specs.Area.{block_count}
use Rattle.area_emptying.proofs.Run.{Emptying, Emptied}
use Rattle.area_emptying.proofs.emptied_area.empty_segments.Given as goal

abbrev pub invariant-segments : goal.invariant-segments
invariant-segments g l =
    Emptying g.B.Block.address_of g.B.Block.content_of l.geometry.shape l.geometry.segments l.segments.items l.blocks.items × (block_count l.geometry ≤ vec_capacity l.blocks)
    × Emptied g.B.Block.content_of l.initial.segments.items l.segments.items l.blocks.items

abbrev pub decreases-segments : goal.decreases-segments
decreases-segments g l = vec_len l.segments
