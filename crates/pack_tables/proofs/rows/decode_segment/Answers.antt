use Rattle.std.proofs.Common.{◌∙◌, ap, ◌/◌, length, sym, length-drop, arith}
use Rattle.std.proofs.lemmas.List.{take_rest}
use Rattle.byteorder.specs.Endian.{little_from}
use Rattle.geometry.specs.Shape.{segment_blocks}
use Rattle.image.specs.Pack.{bitmap}
use Rattle.pack_tables.proofs.Bytes.{segment_back}
use Rattle.pack_tables.proofs.rows.decode_segment.Goals as goal

pub returns-clause-bytes : goal.returns-clause-bytes
returns-clause-bytes c =
    segment_back c.args.row.now (bitmap (segment_blocks c.args.shape / 8) c.in_ok-bits.bits.items) c.read_u32-count.result c.read_u64-mtime.result
    (omega (arith, c.requires)) (λ k. omega (arith, c.type_inv.row k))
    c.read_u32-count.ensures (c.read_u64-mtime.ensures ∙ ap (little_from 0 8) (take_rest c.args.row.now 4))
    (ap (λ n. bitmap n c.in_ok-bits.bits.items) (sym (ap length (take_rest c.args.row.now 12) ∙ omega (arith, length-drop 12 c.args.row.now, c.requires)))
    ∙ c.in_ok-bits.ensures.bits ∙ take_rest c.args.row.now 12)
