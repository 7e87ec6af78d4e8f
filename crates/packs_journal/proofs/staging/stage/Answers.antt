-- Each step leaves the pack that counts beside, so all together do, whenever a crash comes.
use Rattle.std.proofs.Common.{length, arith}
use Rattle.std.specs.Prelude.{Result, Ok, Err, OnErr}
use Rattle.packs_journal.proofs.Beside.{beside_joined, beside_seen, moments_then, looked_beside}
use Rattle.packs_journal.proofs.staging.stage.Goals as goal

on_err : {T E P : Type 0} (r : Result T E) → P → OnErr r P
on_err (Ok x) p = tt
on_err (Err e) p = p

pub returns-in_err-write_head-clause-beside : goal.returns-in_err-write_head-clause-beside
returns-in_err-write_head-clause-beside g c = beside_joined (length c.args.body.now) c.args.slot _ _ _ c.prepare.ensures.beside c.write_head.ensures.beside

pub returns-in_err-write_head-clause-any_moment : goal.returns-in_err-write_head-clause-any_moment
returns-in_err-write_head-clause-any_moment g c =
    moments_then g.M.Meta.seen g.M.Meta.may_leave g.M.Meta.moment g.M.Meta.left_since g.met.M.Meta.only_now g.met.M.Meta.counts_now (length c.args.body.now) c.args.slot c.args.meta.now c.prepare.new.meta c.write_head.new.meta
    c.prepare.ensures.any_moment c.write_head.ensures.any_moment

pub returns-in_err-write_head-clause-cause : goal.returns-in_err-write_head-clause-cause
returns-in_err-write_head-clause-cause g c = record {
  later = omega (arith, c.prepare.ensures.cause.later, c.write_head.ensures.cause.later);
  failed = on_err c.from_residual-in_err-write_head.result (omega (arith, c.prepare.ensures.cause.later, c.in_err-write_head.ensures.cause.failed));
}

pub returns-clause-beside : goal.returns-clause-beside
returns-clause-beside g c =
    beside_seen (length c.args.body.now) c.args.slot _ _ _ (beside_joined (length c.args.body.now) c.args.slot _ _ _ c.prepare.ensures.beside c.write_head.ensures.beside) c.sync.ensures.quiet.same

pub returns-clause-any_moment : goal.returns-clause-any_moment
returns-clause-any_moment g c =
    moments_then g.M.Meta.seen g.M.Meta.may_leave g.M.Meta.moment g.M.Meta.left_since g.met.M.Meta.only_now g.met.M.Meta.counts_now (length c.args.body.now) c.args.slot c.args.meta.now c.write_head.new.meta c.sync.new.self
    (moments_then g.M.Meta.seen g.M.Meta.may_leave g.M.Meta.moment g.M.Meta.left_since g.met.M.Meta.only_now g.met.M.Meta.counts_now (length c.args.body.now) c.args.slot c.args.meta.now c.prepare.new.meta c.write_head.new.meta
    c.prepare.ensures.any_moment c.write_head.ensures.any_moment)
    (looked_beside g.M.Meta.seen g.M.Meta.may_leave g.M.Meta.moment g.M.Meta.left_since g.met.M.Meta.only_now (length c.args.body.now) c.args.slot c.write_head.new.meta c.sync.new.self c.sync.ensures.quiet)
