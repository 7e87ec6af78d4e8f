use Rattle.flash_volume.proofs.Following.{follows}
use Rattle.flash_volume.proofs.law.work_law.Goals as goal

pub returns : goal.returns
returns g c = record { follows = follows g.M.Meta.seen g.M.Meta.may_leave g.B.Block.address_of g.B.Block.content_of }
