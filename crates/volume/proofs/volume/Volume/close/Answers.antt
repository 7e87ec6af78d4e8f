use Rattle.std.proofs.Common.{◌≡◌, sym, subst, inl, inr, ◌∙◌, rules}
use Rattle.device.specs.Disk.{Leaves}
use Rattle.checkpoint.specs.Holding.{WasWrittenOver}
use Rattle.checkpoint_image.specs.View.{taken_view}
use Rattle.pack_tables.specs.Holding.{HoldsTables}
use Rattle.pack_tables.specs.Grammar.{HasSuper}
use Rattle.pack_tables.proofs.SuperLemmas.{super_stays}
use Rattle.volume.specs.Leaving.{IsLeftOut}
use Rattle.volume.proofs.volume.Volume.close.Goals as goal

pub returns-in-Ok-clause-mountable : goal.returns-in-Ok-clause-mountable
returns-in-Ok-clause-mountable g c =
    let geometry = g.V.Numbers.GeometryName.geometry in
    let packs = c.write_last.new.packs in
    let sound = c.in-Ok.ensures.sound in
    let meta = c.into_meta-meta.ensures.meta in
    let image = taken_view c.in-Ok.last.image in
    let front : Leaves g.M.Meta.may_leave packs.packs.area.meta (HasSuper geometry) = λ left there. let kept = ((packs.whole sound).settled.left left there).same in super_stays geometry (g.M.Meta.seen packs.packs.area.meta) left packs.front kept.long kept.front in
    record {
      size = record { area = c.into_meta-meta.ensures.size; count = sym c.close_area-blocks.result.ok.0 ∙ c.close_area-blocks.ensures.count; run = c.close_area-blocks.ensures.run };
      front = subst (λ m. Leaves g.M.Meta.may_leave m (HasSuper geometry)) (sym meta) front;
      tables = subst (λ m. Leaves g.M.Meta.may_leave m (HoldsTables geometry image)) (sym meta) c.in-Ok.ensures.tables;
      nodes = c.close_area-blocks.ensures.nodes;
      lawful = c.in-Ok.ensures.lawful;
    }

pub returns-in-Ok-clause-any_moment : goal.returns-in-Ok-clause-any_moment
returns-in-Ok-clause-any_moment g c =
    let meta = g.M.Meta in
    subst (λ m. WasWrittenOver meta.seen meta.may_leave meta.moment meta.left_since g.V.Numbers.GeometryName.geometry m (taken_view c.in-Ok.last.image)) (sym c.into_meta-meta.ensures.meta)
    c.in-Ok.ensures.any_moment

pub returns-in-Some-clause-error : goal.returns-in-Some-clause-error
returns-in-Some-clause-error g c = rw c.of.ensures.error (inl (subst (λ n. IsLeftOut n c.in-Some.error) c.as_slice.ensures.len c.in-Some.ensures.some))

pub returns-in-Err-clause-error : goal.returns-in-Err-clause-error
returns-in-Err-clause-error g c = rw c.of-in-Err.ensures.error (inr (search (rules, c.in-Err.ensures.error)))
