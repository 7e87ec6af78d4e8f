use Rattle.std.proofs.Common.{ℕ, List, subst, sym}
use Rattle.device.specs.Disk.{Leaves}
use Rattle.image.specs.Empty.{empty_image}
use Rattle.pack_tables.specs.Grammar.{HasSuper}
use Rattle.pack_tables.specs.Holding.{HoldsTables}
use Rattle.volume_format.proofs.Written.{first_version, first_long, where_ok, front_left, tables_left}
use Rattle.volume_format.proofs.writing.write_volume.Goals as goal

pub begin-requires-clause-len : goal.begin-requires-clause-len
begin-requires-clause-len g c = first_long c.args.geometry.now c.args.body.now c.requires.spelled

pub begin-requires-clause-first : goal.begin-requires-clause-first
begin-requires-clause-first g c = first_version c.args.geometry.now c.args.body.now c.requires.spelled

pub returns-in-Ok-clause-front : goal.returns-in-Ok-clause-front
returns-in-Ok-clause-front g c =
    let geometry = c.args.geometry.now in
    let front = where_ok c.write_front.result c.if-is_err.ensures.negation c.write_front.ensures.front in
    let settled = rw c.in-Ok.packs-is at c.in-Ok.ensures.settled in
    let same = rw c.in-Ok.packs-is at c.in-Ok.ensures.same in
    subst (λ meta. Leaves g.M.Meta.may_leave meta (HasSuper geometry)) (sym c.into_meta.ensures)
    (front_left g.M.Meta.seen g.M.Meta.may_leave geometry c.in-Ok.packs c.args.body.now (g.M.Meta.seen c.write_front.new.meta) settled same front)

pub returns-in-Ok-clause-tables : goal.returns-in-Ok-clause-tables
returns-in-Ok-clause-tables g c =
    let geometry = c.args.geometry.now in
    let numbers = rw c.in-Ok.packs-is at c.in-Ok.ensures.geometry in
    let settled = rw c.in-Ok.packs-is at c.in-Ok.ensures.settled in
    subst (λ meta. Leaves g.M.Meta.may_leave meta (HoldsTables geometry (empty_image geometry))) (sym c.into_meta.ensures)
    (tables_left g.M.Meta.seen g.M.Meta.may_leave geometry (empty_image geometry) c.in-Ok.packs c.args.body.now numbers c.requires.spelled settled)
