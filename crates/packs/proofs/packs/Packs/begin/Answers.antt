use Rattle.packs.specs.Area.{reading_of}
use Rattle.packs.proofs.Named.{settled_self}
use Rattle.packs.proofs.packs.Packs.begin.Goals as goal

pub of-stored-requires : goal.of-stored-requires
of-stored-requires g c = settled_self (reading_of c.write_first.new.self.geometry) g.M.Meta.seen g.M.Meta.may_leave g.met.M.Meta.seen_is_left c.write_first.new.self _ c.in-Ok.ensures.settled
