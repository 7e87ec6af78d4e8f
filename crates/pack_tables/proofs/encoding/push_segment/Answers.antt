use Rattle.std.proofs.Common.{◌∙◌, ap, ◌/◌, ◌++◌, append_assoc}
use Rattle.std.proofs.lemmas.Result.{IfOk-equal}
use Rattle.byteorder.specs.Endian.{little_bytes}
use Rattle.geometry.specs.Shape.{segment_blocks}
use Rattle.image.specs.Pack.{bitmap}
use Rattle.pack_tables.proofs.encoding.push_segment.Goals as goal

pub returns-clause-added : goal.returns-clause-added
returns-clause-added c =
    let out = c.args.out.now.items in
    let count = c.args.info.now.count in
    let time = c.args.info.now.mtime in
    let bits = bitmap (segment_blocks c.args.shape / 8) c.args.info.now.bits.items in
    let written = bitmap (c.segment_blocks.result / 8) c.deref.result.now in
    IfOk-equal c.push_bits.result _ _ _ c.push_bits.ensures
    (ap (λ o. o ++ written) c.in_ok-extend_from_slice-2.ensures.items
    ∙ ap (λ o. (o ++ c.to_le_bytes-2.result) ++ written) c.in_ok-extend_from_slice.ensures.items
    ∙ ap (λ b. ((out ++ b) ++ c.to_le_bytes-2.result) ++ written) c.to_le_bytes.ensures
    ∙ ap (λ b. ((out ++ little_bytes 4 count) ++ b) ++ written) c.to_le_bytes-2.ensures
    ∙ ap (λ n. ((out ++ little_bytes 4 count) ++ little_bytes 8 time) ++ bitmap (n / 8) c.deref.result.now) c.segment_blocks.ensures
    ∙ ap (λ l. ((out ++ little_bytes 4 count) ++ little_bytes 8 time) ++ bitmap (segment_blocks c.args.shape / 8) l) c.deref.ensures.value
    ∙ ap (λ l. l ++ bits) (append_assoc out (little_bytes 4 count) (little_bytes 8 time))
    ∙ append_assoc out (little_bytes 4 count ++ little_bytes 8 time) bits)
