use Rattle.std.proofs.Common.{ap, sym, subst, ◌∙◌}
use Rattle.sit.specs.Room.{RoomOf, IsRoom}
use Rattle.sit.specs.Loading.{IsLoading}
use Rattle.sit.proofs.Loads.{begins}
use Rattle.sit.proofs.room.EmptySegment.load.Goals as goal

pub invariant_of-result : goal.invariant_of-result
invariant_of-result g c =
    let parts = c.into_parts-shape.result in
    let whose = c.into_parts-shape.ensures.whose in
    let room = subst (λ (r : RoomOf). IsRoom r parts.2 parts.3 parts.4) (λ k. record { shape = sym whose.0 k; number = sym whose.1 k }) c.into_parts-shape.ensures.room in
    subst (λ n. IsLoading parts.0 parts.1 n parts.2 parts.3 parts.4 c.args.account) (sym c.segment_blocks.ensures)
    (begins parts.0 parts.1 parts.2 parts.3 parts.4 c.args.account room (ap (λ a. a.segment) c.requires.account ∙ sym whose.1) (ap (λ a. a.marks) c.requires.account))
