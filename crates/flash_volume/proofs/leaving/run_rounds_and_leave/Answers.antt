use Rattle.flash_volume.specs.declared.leave.Leave.TheVariants.{Discard}
use Rattle.flash_volume.proofs.Working.{was_given_up, was_left}
use Rattle.flash_volume.proofs.leaving.run_rounds_and_leave.Goals as goal

pub returns-in-Ok : goal.returns-in-Ok
returns-in-Ok g c = (
  c.in-Ok.leave,
  was_left g.M.Meta.seen g.M.Meta.may_leave g.B.Block.address_of g.B.Block.content_of _ _ c.in-Ok.leave g.V.Numbers.GeometryName.geometry c.in-Ok.output c.in-Ok.rights.passes.items c.leave_with.result c.in-Ok.ensures.done c.leave_with.ensures.output c.leave_with.ensures.left
      c.leave_with.ensures.given_up c.leave_with.ensures.stage c.leave_with.ensures.error,
)

pub returns-in-Err : goal.returns-in-Err
returns-in-Err g c = (
  Discard,
  was_given_up g.M.Meta.seen g.M.Meta.may_leave g.B.Block.address_of g.B.Block.content_of _ _ Discard g.V.Numbers.GeometryName.geometry c.in-Err.error c.give_up.result c.in-Err.ensures.refused c.give_up.ensures.given_up c.give_up.ensures.stage c.give_up.ensures.error,
)
