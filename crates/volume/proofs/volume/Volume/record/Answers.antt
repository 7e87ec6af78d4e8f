-- Of the packs' cell only the kept body has changed, and what has changed in it lies in touched pages.
use Rattle.std.proofs.Common.{◌≡◌, ◌∙◌, ap, subst, sym}
use Rattle.image.specs.Pack.{body_bytes}
use Rattle.checkpoint_image.proofs.Touching.{changes_on}
use Rattle.checkpoint_image.specs.View.{taken_view}
use Rattle.checkpoint.specs.Holding.{IsInPack, IsShownOver, counting_body}
use Rattle.volume.proofs.volume.Volume.record.Goals as goal

pub invariant_of-packs-clause-of_rows : goal.invariant_of-packs-clause-of_rows
invariant_of-packs-clause-of_rows g c = c.take_volume.ensures.kept.1 ∙ c.args.packs.now.of_rows

pub invariant_of-packs-clause-of_numbers : goal.invariant_of-packs-clause-of_numbers
invariant_of-packs-clause-of_numbers g c = c.take_volume.ensures.kept.0 ∙ c.args.packs.now.of_numbers

pub invariant_of-packs-clause-touched : goal.invariant_of-packs-clause-touched
invariant_of-packs-clause-touched g c = λ sound.
    let old = c.args.packs.now in
    changes_on (body_bytes g.V.Numbers.GeometryName.geometry) old.body.body c.take_volume.new.kept.body (counting_body g.M.Meta.seen old.packs) c.take_volume.ensures.touched (old.touched sound)

pub returns-in-Ok-clause-written : goal.returns-in-Ok-clause-written
returns-in-Ok-clause-written g c =
    let shown = c.in-Ok.stored.pack.shown.items in
    let same : c.in_ok-taken.taken.recorded.image ≡ c.in-Ok.stored.taken.image = ap (λ taken. taken.image) (sym c.in-Ok.ensures.taken) in
    subst (λ image. IsInPack g.M.Meta.may_leave g.V.Numbers.GeometryName.geometry (taken_view image) shown) same c.in-Ok.ensures.written

pub returns-in-Ok-clause-any_moment : goal.returns-in-Ok-clause-any_moment
returns-in-Ok-clause-any_moment g c =
    let shown = c.in-Ok.stored.pack.shown.items in
    let meta = g.M.Meta in
    let same : c.in_ok-taken.taken.recorded.image ≡ c.in-Ok.stored.taken.image = ap (λ taken. taken.image) (sym c.in-Ok.ensures.taken) in
    subst (λ image. IsShownOver meta.seen meta.may_leave meta.moment meta.left_since g.V.Numbers.GeometryName.geometry (taken_view image) shown) same c.in-Ok.ensures.shown_over
