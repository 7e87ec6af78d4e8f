use Rattle.std.proofs.Common.{List, ℕ, ◌∙◌, subst}
use Rattle.device.proofs.Moments.{quiet_joined}
use Rattle.packs.specs.Area.{reading_of}
use Rattle.packs.specs.Device.{HoldEnds}
use Rattle.packs.proofs.Picking.{is_found}
use Rattle.packs.proofs.open.look.Goals as goal

pub returns-clause-found : goal.returns-clause-found
returns-clause-found g c =
    let same = c.sync.ensures.quiet.same in
    is_found (reading_of c.args.geometry.now) (g.M.Meta.seen c.args.meta.now) c.in_ok-first.first c.in_ok-second.second c.find.result
    (subst (λ (l : List ℕ). HoldEnds (reading_of c.args.geometry.now) 0 l c.in_ok-first.first) same c.in_ok-first.ensures.ends)
    (subst (λ (l : List ℕ). HoldEnds (reading_of c.args.geometry.now) 1 l c.in_ok-second.second) (c.read_ends.ensures.quiet.same ∙ same) c.in_ok-second.ensures.ends)
    c.find.ensures

pub returns-clause-quiet : goal.returns-clause-quiet
returns-clause-quiet g c =
    let meta = g.M.Meta in
    let counts = g.met.M.Meta.counts_now in
    let settled = quiet_joined meta.moment meta.left_since meta.seen meta.may_leave counts _ _ _ c.sync.ensures.quiet c.read_ends.ensures.quiet in
    quiet_joined meta.moment meta.left_since meta.seen meta.may_leave counts _ _ _ settled c.read_ends-2.ensures.quiet
