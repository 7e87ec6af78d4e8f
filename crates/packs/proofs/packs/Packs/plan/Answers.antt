use Rattle.std.proofs.Common.{◌≡◌, ◌∙◌, ap, subst, ℕ, arith}
use Rattle.device.proofs.Moments.{quiet_joined}
use Rattle.image.specs.Slots.{slot_of}
use Rattle.packs.specs.declared.packs.Packs.{Packs}
use Rattle.packs.specs.Parts.{known_sides}
use Rattle.packs.proofs.Plans.{IsPlanTo, plan_all, plan_step}
use Rattle.packs.proofs.packs.Packs.plan.Goals as goal

pub loop-k-preserved : goal.loop-k-preserved
loop-k-preserved g c =
    let inv = c.loop-k.invariant in
    let s = c.side_for.ensures in
    let ok = c.in_ok-sides.ensures in
    record {
      plan = plan_step g.M.Meta.seen c.args.self.now c.loop-k.self c.loop-k.k c.loop-k.sides c.in_ok-sides.field-0 c.args.body.now inv.rest inv.quiet.same c.loop-k-test.true inv.plan ok.named ok.equal;
      quiet = quiet_joined g.M.Meta.moment g.M.Meta.left_since g.M.Meta.seen g.M.Meta.may_leave g.met.M.Meta.counts_now _ _ _ inv.quiet s.quiet;
      rest = s.rest ∙ ap (λ (p : Packs g.row.M.Denot). record p { meta = c.side_for.new.self.meta }) inv.rest;
      failed = omega (arith, inv.failed, s.cause.later);
    }

pub returns-clause-plan : goal.returns-clause-plan
returns-clause-plan g c =
    let p = c.args.self.now in
    let seen = g.M.Meta.seen p.meta in
    let end : c.loop-k.k ≡ 64 = omega (arith, c.loop-k-test.false, c.loop-k.auto.k-end) in
    plan_all p.geometry (slot_of p.version) (known_sides p.known.map) c.args.body.now seen c.loop-k.sides c.known_side-last.ensures.few
    (subst (λ (n : ℕ). IsPlanTo p.geometry (slot_of p.version) (known_sides p.known.map) n c.loop-k.sides c.args.body.now seen) end c.loop-k.invariant.plan)
