use Rattle.std.proofs.Common.{◌≡◌, vec_capacity}
use Rattle.sit.proofs.Filling.{IsFilling}
use Rattle.sit.proofs.blocks.Blocks.fill_from.Given as goal

abbrev pub invariant-loop-left : goal.invariant-loop-left
invariant-loop-left g l =
    IsFilling g.B.Block.address_of g.B.Block.content_of l.initial.self l.self l.initial.all.items l.left l.all.items × (vec_capacity l.all ≡ vec_capacity l.initial.all)
