use Rattle.std.proofs.Common.{◌∙◌, map, subst, sym}
use Rattle.pack_tables.specs.Grammar.{HasSuper}
use Rattle.file_device.specs.Blocks.{is_kept}
use Rattle.file_device.specs.Named.{FlagNamed}
use Rattle.file_device.proofs.image_file.open_image.Goals as goal

pub returns : goal.returns
returns g c =
    let read = c.in_ok-geometry in
    let opened = c.in_ok-parts.ensures in
    let front = subst (HasSuper read.geometry) (sym opened.front) read.ensures.front in
    let kept = map is_kept c.in_ok-parts.parts.blocks.items in
    record {
      parts = (read.geometry, front, opened.size);
      read = (
        read.geometry,
        front,
        subst (λ area. FlagNamed read.geometry area kept) (c.as_slice.ensures.value ∙ sym opened.front)
            (subst (FlagNamed read.geometry c.as_slice.result.now) (sym (opened.read ∙ c.as_slice-2.ensures.value)) c.in_ok-named.ensures.named),
      );
    }
