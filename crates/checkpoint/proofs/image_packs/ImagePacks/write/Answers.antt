use Rattle.std.proofs.Common.{◌∙◌}
use Rattle.checkpoint_image.specs.View.{taken_view}
use Rattle.pack_tables.proofs.RoundTrip.{spelled_back}
use Rattle.checkpoint.specs.Holding.{counting_body}
use Rattle.checkpoint.proofs.Bodies.{settled_holds}
use Rattle.checkpoint.proofs.image_packs.ImagePacks.write.Goals as goal

pub returns-clause-held : goal.returns-clause-held
returns-clause-held g c =
    let done = c.in_ok-pack.ensures in
    settled_holds g.M.Meta.seen g.M.Meta.may_leave c.args.self.now.geometry (taken_view c.args.taken.image) c.store.new.self.area (counting_body g.M.Meta.seen c.store.new.self)
    (done.whole.size ∙ c.store.ensures.geometry)
    done.spelled done.whole.settled

pub returns-clause-read_back : goal.returns-clause-read_back
returns-clause-read_back g c =
    λ blocks. spelled_back c.args.self.now.geometry _ (taken_view c.args.taken.image) blocks c.in_ok-pack.ensures.spelled
