-- The visit does the works: so its promises are theirs, on what the parts held.
use Rattle.flash_volume.specs.Beside.{AreDoneBeside, HaveFailed}
use Rattle.flash_volume.proofs.Scheduled.{as_worked}
use Rattle.flash_volume.proofs.Refused.{handed_on}
use Rattle.flash_volume.proofs.Same.{refused_run}
use Rattle.flash_volume.proofs.Visiting.{failed, fault_run, given_up, not_closed, not_format, not_mount, run_again, worked}
use Rattle.flash_volume.proofs.side_by_side.work_side_by_side.Goals as goal

pub returns-in-Ok-clause-done : goal.returns-in-Ok-clause-done
returns-in-Ok-clause-done g c = worked g.M.Meta.seen g.M.Meta.may_leave g.B.Block.address_of g.B.Block.content_of (λ geometry before outputs after. AreDoneBeside g.W.Work.post geometry c.args.works.items before outputs.items after) (λ geometry before error. HaveFailed g.W.Work.failed geometry c.args.works.items before error) c.args.leave c.args.parts c.in-Ok.left (as_worked g.M.Meta.seen g.M.Meta.may_leave g.B.Block.address_of g.B.Block.content_of g.W.Work.post g.W.Work.failed c.args.works c.args.leave c.args.parts c.in-Ok.left c.in-Ok.ensures.done)

pub returns-in-Ok-clause-again : goal.returns-in-Ok-clause-again
returns-in-Ok-clause-again g c = run_again g.M.Meta.seen g.M.Meta.may_leave g.B.Block.address_of g.B.Block.content_of (λ geometry before outputs after. AreDoneBeside g.W.Work.post geometry c.args.works.items before outputs.items after) (λ geometry before error. HaveFailed g.W.Work.failed geometry c.args.works.items before error) c.args.leave c.args.parts c.in-Ok.left (as_worked g.M.Meta.seen g.M.Meta.may_leave g.B.Block.address_of g.B.Block.content_of g.W.Work.post g.W.Work.failed c.args.works c.args.leave c.args.parts c.in-Ok.left c.in-Ok.ensures.done)

pub returns-in-Ok-clause-stage : goal.returns-in-Ok-clause-stage
returns-in-Ok-clause-stage g c = not_format g.M.Meta.seen g.M.Meta.may_leave g.B.Block.address_of g.B.Block.content_of (λ geometry before outputs after. AreDoneBeside g.W.Work.post geometry c.args.works.items before outputs.items after) (λ geometry before error. HaveFailed g.W.Work.failed geometry c.args.works.items before error) c.args.leave c.args.parts c.in-Ok.left (as_worked g.M.Meta.seen g.M.Meta.may_leave g.B.Block.address_of g.B.Block.content_of g.W.Work.post g.W.Work.failed c.args.works c.args.leave c.args.parts c.in-Ok.left c.in-Ok.ensures.done)

pub returns-in-Ok-clause-handed_back : goal.returns-in-Ok-clause-handed_back
returns-in-Ok-clause-handed_back g c = not_mount g.M.Meta.seen g.M.Meta.may_leave g.B.Block.address_of g.B.Block.content_of (λ geometry before outputs after. AreDoneBeside g.W.Work.post geometry c.args.works.items before outputs.items after) (λ geometry before error. HaveFailed g.W.Work.failed geometry c.args.works.items before error) c.args.leave c.args.parts c.in-Ok.left (as_worked g.M.Meta.seen g.M.Meta.may_leave g.B.Block.address_of g.B.Block.content_of g.W.Work.post g.W.Work.failed c.args.works c.args.leave c.args.parts c.in-Ok.left c.in-Ok.ensures.done) _

pub returns-in-Err-clause-handed_back : goal.returns-in-Err-clause-handed_back
returns-in-Err-clause-handed_back g c = λ at.
    handed_on g.M.Meta.seen g.M.Meta.may_leave g.M.Meta.moment g.M.Meta.left_since g.M.Meta.failed g.B.Block.address_of g.B.Block.content_of g.B.Block.failed c.args.parts c.in-Err.fault.parts c.unmounted.result.parts c.in-Err.fault.error c.unmounted.result.error c.unmounted.ensures.parts c.unmounted.ensures.error c.in-Err.ensures.handed_back

pub returns-in-Ok-clause-given_up : goal.returns-in-Ok-clause-given_up
returns-in-Ok-clause-given_up g c = given_up g.M.Meta.seen g.M.Meta.may_leave g.B.Block.address_of g.B.Block.content_of (λ geometry before outputs after. AreDoneBeside g.W.Work.post geometry c.args.works.items before outputs.items after) (λ geometry before error. HaveFailed g.W.Work.failed geometry c.args.works.items before error) c.args.leave c.args.parts c.in-Ok.left (as_worked g.M.Meta.seen g.M.Meta.may_leave g.B.Block.address_of g.B.Block.content_of g.W.Work.post g.W.Work.failed c.args.works c.args.leave c.args.parts c.in-Ok.left c.in-Ok.ensures.done)

pub returns-in-Ok-clause-after_fault : goal.returns-in-Ok-clause-after_fault
returns-in-Ok-clause-after_fault g c = fault_run g.M.Meta.seen g.M.Meta.may_leave g.B.Block.address_of g.B.Block.content_of (λ geometry before outputs after. AreDoneBeside g.W.Work.post geometry c.args.works.items before outputs.items after) (λ geometry before error. HaveFailed g.W.Work.failed geometry c.args.works.items before error) c.args.leave c.args.parts c.in-Ok.left (as_worked g.M.Meta.seen g.M.Meta.may_leave g.B.Block.address_of g.B.Block.content_of g.W.Work.post g.W.Work.failed c.args.works c.args.leave c.args.parts c.in-Ok.left c.in-Ok.ensures.done)

pub returns-in-Err-clause-after_fault : goal.returns-in-Err-clause-after_fault
returns-in-Err-clause-after_fault g c =
    refused_run g.M.Meta.seen g.M.Meta.may_leave g.B.Block.address_of g.B.Block.content_of c.args.parts c.in-Err.fault.parts c.unmounted.result.parts c.in-Err.ensures.handed_back.same c.requires.run c.unmounted.ensures.parts

pub returns-in-Ok-clause-not_closed : goal.returns-in-Ok-clause-not_closed
returns-in-Ok-clause-not_closed g c = not_closed g.M.Meta.seen g.M.Meta.may_leave g.B.Block.address_of g.B.Block.content_of (λ geometry before outputs after. AreDoneBeside g.W.Work.post geometry c.args.works.items before outputs.items after) (λ geometry before error. HaveFailed g.W.Work.failed geometry c.args.works.items before error) c.args.leave c.args.parts c.in-Ok.left (as_worked g.M.Meta.seen g.M.Meta.may_leave g.B.Block.address_of g.B.Block.content_of g.W.Work.post g.W.Work.failed c.args.works c.args.leave c.args.parts c.in-Ok.left c.in-Ok.ensures.done)

pub returns-in-Ok-clause-failed : goal.returns-in-Ok-clause-failed
returns-in-Ok-clause-failed g c = failed g.M.Meta.seen g.M.Meta.may_leave g.B.Block.address_of g.B.Block.content_of (λ geometry before outputs after. AreDoneBeside g.W.Work.post geometry c.args.works.items before outputs.items after) (λ geometry before error. HaveFailed g.W.Work.failed geometry c.args.works.items before error) c.args.leave c.args.parts c.in-Ok.left (as_worked g.M.Meta.seen g.M.Meta.may_leave g.B.Block.address_of g.B.Block.content_of g.W.Work.post g.W.Work.failed c.args.works c.args.leave c.args.parts c.in-Ok.left c.in-Ok.ensures.done)
