-- What is put keeps the pack that counts at every moment, and once it is settled it is staged.
use Rattle.std.proofs.Common.{sym, subst}
use Rattle.packs.specs.declared.packs.Packs.{Packs}
use Rattle.packs.specs.Area.{slots_reading}
use Rattle.packs.specs.Device.{AreStaged, body_of}
use Rattle.packs.proofs.Stage.{parts_had, parts_at, parts_moments, parts_staged}
use Rattle.packs.proofs.Sizes.{is_slots}
use Rattle.packs.proofs.packs.Packs.stage_parts.Goals as goal

pub put_parts-requires-clause-area : goal.put_parts-requires-clause-area
put_parts-requires-clause-area g c = is_slots c.args.self.now.geometry (g.M.Meta.seen c.args.self.now.meta) c.requires.slots c.requires.settled.area

pub returns-in_err-known-clause-any_moment : goal.returns-in_err-known-clause-any_moment
returns-in_err-known-clause-any_moment g c =
    let p = c.args.self.now in
    let seen = g.M.Meta.seen in
    let old = body_of (slots_reading p.geometry) seen p in
    let run = c.put_parts.ensures.any_moment (seen p.meta) old (parts_had seen g.M.Meta.may_leave p old c.requires.slots c.requires.settled) (parts_at seen g.M.Meta.may_leave p old c.requires.slots c.requires.settled) in
    parts_moments seen g.M.Meta.may_leave p old c.requires.slots c.requires.settled g.M.Meta.moment g.M.Meta.left_since c.put_parts.new.self.meta run

pub returns-in_err-known-clause-same : goal.returns-in_err-known-clause-same
returns-in_err-known-clause-same g c = c.put_parts.ensures.ends.area

pub returns-clause-any_moment : goal.returns-clause-any_moment
returns-clause-any_moment g c =
    let p = c.args.self.now in
    let seen = g.M.Meta.seen in
    let old = body_of (slots_reading p.geometry) seen p in
    let run = c.put_parts.ensures.any_moment (seen p.meta) old (parts_had seen g.M.Meta.may_leave p old c.requires.slots c.requires.settled) (parts_at seen g.M.Meta.may_leave p old c.requires.slots c.requires.settled) in
    parts_moments seen g.M.Meta.may_leave p old c.requires.slots c.requires.settled g.M.Meta.moment g.M.Meta.left_since c.put_parts.new.self.meta run

pub returns-clause-same : goal.returns-clause-same
returns-clause-same g c = c.put_parts.ensures.ends.area

pub returns-clause-staged : goal.returns-clause-staged
returns-clause-staged g c =
    let p = c.args.self.now in
    let seen = g.M.Meta.seen in
    let old = body_of (slots_reading p.geometry) seen p in
    let after = c.put_parts.new.self.meta in
    let e = c.in_ok-known.ensures in
    let had = parts_had seen g.M.Meta.may_leave p old c.requires.slots c.requires.settled in
    let run = c.put_parts.ensures.any_moment (seen p.meta) old had (parts_at seen g.M.Meta.may_leave p old c.requires.slots c.requires.settled) in
    let now = run.each (seen after) (g.met.M.Meta.counts_now after (g.M.Meta.moment p.meta) (seen after) run.later (g.met.M.Meta.seen_is_left after)) in
    subst (λ (q : Packs g.row.M.Denot). AreStaged (slots_reading q.geometry) seen g.M.Meta.may_leave q old c.args.body.now c.in_ok-known.known) (sym c.put_parts.ensures.rest)
    (parts_staged seen g.M.Meta.may_leave p old c.requires.slots c.requires.settled after c.args.body.now c.in_ok-known.known now c.put_parts.ensures.ends.area e.body e.map e.durable)
