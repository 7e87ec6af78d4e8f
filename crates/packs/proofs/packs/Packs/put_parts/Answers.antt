-- Planning only reads, putting writes beside the pack that counts, and the sync leaves nothing open.
use Rattle.std.proofs.Common.{sym, ◌∙◌, ap, subst, ℕ, ◌-◌, List, length}
use Rattle.image.specs.Slots.{slot_of}
use Rattle.packs.specs.declared.packs.Packs.{Packs}
use Rattle.packs.specs.Area.{slots_reading}
use Rattle.packs.specs.Device.{IsSlots}
use Rattle.packs.specs.Parts.{body_bytes, known_sides, map_in, assembled}
use Rattle.packs.specs.Staging.{IsPlan, SameEnds}
use Rattle.packs.proofs.Fronts.{same_area}
use Rattle.packs.proofs.Putting.{put_whole}
use Rattle.packs.proofs.Stage.{put_ends, put_there, planned_moments, put_moments, synced_moments}
use Rattle.packs.proofs.Steps.{slots_stay}
use Rattle.packs.proofs.packs.Packs.put_parts.Goals as goal

pub put-requires-clause-area : goal.put-requires-clause-area
put-requires-clause-area g c =
    let p = c.args.self.now in
    subst (λ (n : ℕ). IsSlots n (g.M.Meta.seen c.plan.new.self.meta)) (ap (λ (q : Packs g.row.M.Denot). body_bytes q.geometry) (sym c.plan.ensures.rest))
    (slots_stay _ (g.M.Meta.seen p.meta) _ c.requires.area (ap length c.plan.ensures.quiet.same))

pub put-requires-clause-len : goal.put-requires-clause-len
put-requires-clause-len g c = c.requires.len ∙ ap (λ (q : Packs g.row.M.Denot). body_bytes q.geometry) (sym c.plan.ensures.rest)

pub put-requires-clause-plan : goal.put-requires-clause-plan
put-requires-clause-plan g c =
    subst (λ (q : Packs g.row.M.Denot). IsPlan q.geometry (slot_of q.version) (known_sides q.known.map) c.in_ok-sides.sides c.args.body.now (g.M.Meta.seen c.plan.new.self.meta)) (sym c.plan.ensures.rest)
    (subst (λ (l : List ℕ). IsPlan c.args.self.now.geometry (slot_of c.args.self.now.version) (known_sides c.args.self.now.known.map) c.in_ok-sides.sides c.args.body.now l) (sym c.plan.ensures.quiet.same) c.in_ok-sides.ensures.plan)

pub returns-in_err-sides-clause-ends : goal.returns-in_err-sides-clause-ends
returns-in_err-sides-clause-ends g c = record {
  area = same_area _ _ c.plan.ensures.quiet.same;
  footer = λ slot below. ap ((slots_reading c.args.self.now.geometry).footer slot) c.plan.ensures.quiet.same;
}

pub returns-in_err-sides-clause-any_moment : goal.returns-in_err-sides-clause-any_moment
returns-in_err-sides-clause-any_moment g c = λ start old had slot.
    planned_moments g.M.Meta.seen g.M.Meta.may_leave g.M.Meta.moment g.M.Meta.left_since g.met.M.Meta.seen_is_left g.met.M.Meta.counts_now g.met.M.Meta.only_now c.args.self.now start old had slot c.plan.new.self.meta c.plan.ensures.quiet

pub returns-in_err-put-clause-ends : goal.returns-in_err-put-clause-ends
returns-in_err-put-clause-ends g c = put_ends g.M.Meta.seen c.args.self.now c.plan.new.self c.plan.ensures.quiet.same c.plan.ensures.rest _ c.put.ensures.ends

pub returns-in_err-put-clause-any_moment : goal.returns-in_err-put-clause-any_moment
returns-in_err-put-clause-any_moment g c = λ start old had slot.
    put_moments g.M.Meta.seen g.M.Meta.may_leave g.M.Meta.moment g.M.Meta.left_since g.met.M.Meta.seen_is_left g.met.M.Meta.counts_now g.met.M.Meta.only_now c.args.self.now start old had slot c.plan.new.self c.put.new.self.meta c.plan.ensures.quiet c.plan.ensures.rest
    c.put.ensures.any_moment

pub returns-in_err-sync-clause-ends : goal.returns-in_err-sync-clause-ends
returns-in_err-sync-clause-ends g c =
    subst (SameEnds c.args.self.now.geometry (g.M.Meta.seen c.args.self.now.meta)) (sym c.sync.ensures.quiet.same) (put_ends g.M.Meta.seen c.args.self.now c.plan.new.self c.plan.ensures.quiet.same c.plan.ensures.rest _ c.put.ensures.ends)

pub returns-in_err-sync-clause-any_moment : goal.returns-in_err-sync-clause-any_moment
returns-in_err-sync-clause-any_moment g c = λ start old had slot.
    synced_moments g.M.Meta.seen g.M.Meta.may_leave g.M.Meta.moment g.M.Meta.left_since g.met.M.Meta.seen_is_left g.met.M.Meta.counts_now g.met.M.Meta.only_now c.args.self.now start old had slot c.plan.new.self c.put.new.self.meta c.sync.new.self
    c.plan.ensures.quiet c.plan.ensures.rest c.put.ensures.any_moment c.sync.ensures.quiet

pub returns-clause-ends : goal.returns-clause-ends
returns-clause-ends g c =
    subst (SameEnds c.args.self.now.geometry (g.M.Meta.seen c.args.self.now.meta)) (sym c.sync.ensures.quiet.same) (put_ends g.M.Meta.seen c.args.self.now c.plan.new.self c.plan.ensures.quiet.same c.plan.ensures.rest _ c.put.ensures.ends)

pub returns-clause-any_moment : goal.returns-clause-any_moment
returns-clause-any_moment g c = λ start old had slot.
    synced_moments g.M.Meta.seen g.M.Meta.may_leave g.M.Meta.moment g.M.Meta.left_since g.met.M.Meta.seen_is_left g.met.M.Meta.counts_now g.met.M.Meta.only_now c.args.self.now start old had slot c.plan.new.self c.put.new.self.meta c.sync.new.self
    c.plan.ensures.quiet c.plan.ensures.rest c.put.ensures.any_moment c.sync.ensures.quiet

pub returns-clause-body : goal.returns-clause-body
returns-clause-body g c =
    let p = c.args.self.now in
    let slot = slot_of p.version in
    let put = put_there g.M.Meta.seen p c.plan.new.self c.plan.ensures.quiet.same c.plan.ensures.rest c.in_ok-sides.sides c.args.body.now _ c.in_ok-put.ensures.put in
    ap (assembled p.geometry (1 - slot)) c.sync.ensures.quiet.same
    ∙ (put_whole p.geometry slot (known_sides p.known.map) c.in_ok-sides.sides c.args.body.now (g.M.Meta.seen p.meta) (g.M.Meta.seen c.put.new.self.meta) c.requires.len c.in_ok-sides.ensures.plan put).0

pub returns-clause-map : goal.returns-clause-map
returns-clause-map g c =
    let p = c.args.self.now in
    let slot = slot_of p.version in
    let put = put_there g.M.Meta.seen p c.plan.new.self c.plan.ensures.quiet.same c.plan.ensures.rest c.in_ok-sides.sides c.args.body.now _ c.in_ok-put.ensures.put in
    ap (map_in p.geometry (1 - slot)) c.sync.ensures.quiet.same
    ∙ (put_whole p.geometry slot (known_sides p.known.map) c.in_ok-sides.sides c.args.body.now (g.M.Meta.seen p.meta) (g.M.Meta.seen c.put.new.self.meta) c.requires.len c.in_ok-sides.ensures.plan put).1
