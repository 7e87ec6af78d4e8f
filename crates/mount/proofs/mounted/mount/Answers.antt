-- Opening reads the device's blocks and changes no byte, so the parts stay the same, whether all is made for the image
-- or they are handed back.
use Rattle.std.proofs.Common.{◌≡◌, ℕ, List, sym, subst, ◌∙◌}
use Rattle.device.specs.declared.parts.Parts.{Parts}
use Rattle.image.specs.View.{image_view}
use Rattle.image_codec.specs.Blocks.{AreBlocks}
use Rattle.pack_tables.proofs.SuperLemmas.{super_stays}
use Rattle.mount_reading.specs.Held.{AreSameParts, KeepsPack, KeepsBetween}
use Rattle.mount_reading.proofs.Moments.{kept_held}
use Rattle.mount_reading.proofs.Blocks.{count_kept, addresses_same, bytes_same}
use Rattle.mount.proofs.mounted.mount.Goals as goal

pub invariant_of-result : goal.invariant_of-result
invariant_of-result g c =
    let address = g.B.Block.address_of in
    let content = g.B.Block.content_of in
    let device = c.in-Ok.device in
    let all = c.in-Ok.ensures in
    record {
      lawful = all.lawful;
      size = record {
        area = all.area.long ∙ all.size.area;
        count = count_kept address content c.args.parts.blocks.items device.blocks.items all.contents ∙ all.size.count;
        run = all.run;
      };
      blocks = subst (λ (b : ℕ → List ℕ). AreBlocks device.packs.geometry (image_view device.image) b) (sym (bytes_same address content c.args.parts.blocks.items device.blocks.items all.contents)) all.blocks;
      front = super_stays device.packs.geometry (g.M.Meta.seen c.args.parts.meta) (g.M.Meta.seen device.packs.area.meta) all.front all.area.long all.area.front;
      whole = all.packs;
      held = all.held;
      version = all.version;
      made = c.in-Ok-new.ensures.tables;
    }

pub returns-in-Ok-new-clause-parts : goal.returns-in-Ok-new-clause-parts
returns-in-Ok-new-clause-parts g c =
    let all = c.in-Ok.ensures in
    record {
      area = all.area;
      addresses = addresses_same g.B.Block.address_of g.B.Block.content_of _ _ c.args.parts.blocks.items c.in-Ok.device.blocks.items all.size.run all.run all.contents;
      contents = all.contents;
    }

pub returns-in-Err-new-clause-back : goal.returns-in-Err-new-clause-back
returns-in-Err-new-clause-back g c =
    let all = c.in-Ok.ensures in
    subst (λ (p : Parts g.row.M.Denot g.row.B.Denot). AreSameParts g.M.Meta.seen g.B.Block.address_of g.B.Block.content_of c.args.parts p) (sym c.into_parts.ensures)
    (record {
      area = all.area;
      addresses = addresses_same g.B.Block.address_of g.B.Block.content_of _ _ c.args.parts.blocks.items c.in-Ok.device.blocks.items all.size.run all.run all.contents;
      contents = all.contents;
    })

pub returns-in-Err-new-clause-kept : goal.returns-in-Err-new-clause-kept
returns-in-Err-new-clause-kept g c =
    let seen = g.M.Meta.seen in
    let all = c.in-Ok.ensures in
    let packs = c.in-Ok.device.packs in
    λ other. subst (λ (p : Parts g.row.M.Denot g.row.B.Denot). KeepsPack seen c.args.parts.meta p.meta) (sym c.into_parts.ensures)
    (kept_held seen c.args.parts.meta packs.area.meta packs.geometry (image_view c.in-Ok.device.image) all.front all.image.tables
    (all.held (seen packs.area.meta) (g.met.M.Meta.seen_is_left packs.area.meta)))

pub returns-in-Err-new-clause-any_moment_err : goal.returns-in-Err-new-clause-any_moment_err
returns-in-Err-new-clause-any_moment_err g c =
    let meta = g.M.Meta in
    subst (λ (p : Parts g.row.M.Denot g.row.B.Denot). KeepsBetween meta.seen meta.may_leave meta.moment meta.left_since c.args.parts.meta p.meta) (sym c.into_parts.ensures) c.in-Ok.ensures.any_moment
