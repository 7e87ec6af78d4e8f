use Rattle.std.proofs.Common.{◌≡◌, ℕ, sym, ◌∙◌, ap, arith}
use Rattle.byteorder.specs.Endian.{little_number}
use Rattle.device.specs.Disk.{part}
use Rattle.packs.proofs.Footers.{header_is, footer_is}
use Rattle.pack_tables.proofs.PickLemmas.{file_long}
use Rattle.pack_tables.proofs.file.ends_at.Goals as goal

pub returns : goal.returns
returns c =
    let g = c.args.geometry.now in
    let file = c.args.file.now in
    record {
      header = c.number_at.ensures ∙ ap (λ (at : ℕ). little_number 4 (part at 4 file)) c.header_at.ensures
          ∙ sym (header_is g.packing g c.args.slot file c.requires.slot (file_long g file c.requires.size));
      footer = c.number_at-2.ensures ∙ ap (λ (at : ℕ). little_number 4 (part at 4 file)) c.footer_at.ensures ∙ sym (footer_is g.packing g c.args.slot file);
    }
