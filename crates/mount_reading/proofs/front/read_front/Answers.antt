use Rattle.std.proofs.Common.{◌≡◌, ◌⊎◌, ◌≤◌, length, inr, refl, sym, subst, arith}
use Rattle.std.proofs.lemmas.Result.{IfOk-weaker, IfErr-weaker}
use Rattle.geometry.specs.declared.error.Error.{Error}
use Rattle.geometry.specs.declared.error.Error.TheVariants.{Device, BadGeometry}
use Rattle.geometry.specs.declared.geometry.Geometry.{Geometry as Numbers}
use Rattle.pack_tables.proofs.SuperLemmas.{head_super, super_of_head, too_short}
use Rattle.pack_tables.specs.Grammar.{HasSuper}
use Rattle.mount_reading.proofs.front.read_front.Goals as goal

pub returns-then-len-clause-errors : goal.returns-then-len-clause-errors
returns-then-len-clause-errors g c =
    let seen = g.M.Meta.seen c.args.meta.now in
    let count = c.len.ensures in
    let low = c.if-len.true in
    inr (refl, λ geometry has. too_short geometry seen (omega (arith, count, low)) has)

pub returns-clause-front : goal.returns-clause-front
returns-clause-front g c =
    let seen = g.M.Meta.seen c.args.meta.now in
    let long : 64 ≤ length seen = omega (arith, c.len.ensures, c.if-len.false) in
    IfOk-weaker c.read_super.result (λ (geometry : Numbers). HasSuper geometry c.read.new.out) (λ (geometry : Numbers). HasSuper geometry seen)
    (λ geometry has. super_of_head geometry seen long (subst (HasSuper geometry) c.in_ok-read.ensures.bytes has)) c.read_super.ensures.ok

pub returns-clause-errors : goal.returns-clause-errors
returns-clause-errors g c =
    let seen = g.M.Meta.seen c.args.meta.now in
    IfErr-weaker c.read_super.result (λ (e : Error). (e ≡ BadGeometry) × ((geometry : Numbers) → ¬ HasSuper geometry c.read.new.out))
    (λ (e : Error). (e ≡ Device) ⊎ ((e ≡ BadGeometry) × ((geometry : Numbers) → ¬ HasSuper geometry seen)))
    (λ e bad. inr (bad.0, λ geometry has. bad.1 geometry (subst (HasSuper geometry) (sym c.in_ok-read.ensures.bytes) (head_super geometry seen has)))) c.read_super.ensures.err
