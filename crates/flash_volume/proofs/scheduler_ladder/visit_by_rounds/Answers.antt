-- A mount leaves the blocks as they were: so the scheduler runs its rounds on what the parts held.
use Rattle.std.proofs.Common.{[]}
use Rattle.flash_volume.specs.Rounds.{WasScheduled, at_first}
use Rattle.flash_volume.proofs.Visiting.{visited_on}
use Rattle.flash_volume.proofs.Refused.{found_back}
use Rattle.flash_volume.proofs.scheduler_ladder.visit_by_rounds.Goals as goal

pub returns-in-Ok-clause-done : goal.returns-in-Ok-clause-done
returns-in-Ok-clause-done g c =
    let mounted = c.in-Ok.mounted in
    visited_on g.M.Meta.seen g.B.Block.address_of g.B.Block.content_of (λ geometry base before left. WasScheduled g.M.Meta.seen g.M.Meta.may_leave g.B.Block.address_of g.B.Block.content_of (g.X.Scheduler.did c.args.scheduler geometry base (at_first before) []) (g.X.Scheduler.failed c.args.scheduler geometry base (at_first before) []) geometry left)
    mounted.geometry mounted.image mounted.parts.blocks.items c.args.parts c.on_mounted.result c.in-Ok.ensures.held c.in-Ok.ensures.contents c.on_mounted.ensures.done

pub returns-in-Ok-clause-handed_back : goal.returns-in-Ok-clause-handed_back
returns-in-Ok-clause-handed_back g c =
    found_back g.M.Meta.seen g.M.Meta.may_leave g.M.Meta.moment g.M.Meta.left_since g.M.Meta.failed g.B.Block.address_of g.B.Block.content_of g.B.Block.failed c.args.parts c.in-Ok.mounted.parts c.on_mounted.result
    c.in-Ok.ensures.back c.on_mounted.ensures.back c.on_mounted.ensures.error
