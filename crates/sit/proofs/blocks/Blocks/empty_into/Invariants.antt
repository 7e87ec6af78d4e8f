use Rattle.std.proofs.Common.{◌≡◌, vec_capacity}
use Rattle.sit.proofs.Filling.{IsEmptying}
use Rattle.sit.proofs.blocks.Blocks.empty_into.Given as goal

abbrev pub invariant-loop-offset : goal.invariant-loop-offset
invariant-loop-offset g l =
    IsEmptying g.B.Block.address_of g.B.Block.content_of l.initial.self l.self l.initial.all.items l.offset l.all.items × (vec_capacity l.all ≡ vec_capacity l.initial.all)
