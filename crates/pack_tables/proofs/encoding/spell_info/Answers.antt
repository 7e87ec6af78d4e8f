-- A count, a time and a map are added one behind the other. A segment has whole bytes of bits, so its words spell exactly the map.
use Rattle.std.proofs.Common.{◌≡◌, refl, ◌∙◌, ap, ◌*◌, ◌/◌, ◌≤◌, ◌++◌, append_assoc, arith}
use Rattle.std.proofs.lemmas.Result.{IfOk-equal}
use Rattle.byteorder.specs.Endian.{little_bytes}
use Rattle.geometry.specs.Bits.{bits_of}
use Rattle.geometry.specs.declared.shape.Shape.{Shape}
use Rattle.geometry.specs.declared.shape.Shape.TheVariants.{Tiny, Kernel}
use Rattle.geometry.specs.Shape.{segment_blocks}
use Rattle.image.specs.Pack.{bitmap}
use Rattle.pack_tables.proofs.encoding.spell_info.Goals as goal

few_bytes : (shape : Shape) → segment_blocks shape / 8 ≤ 64
few_bytes Tiny = omega arith
few_bytes Kernel = omega arith

whole_bytes : (shape : Shape) → 8 * (segment_blocks shape / 8) ≡ segment_blocks shape
whole_bytes Tiny = refl
whole_bytes Kernel = refl

pub push_words-requires : goal.push_words-requires
push_words-requires c =
    let blocks = c.segment_blocks.ensures in
    let few = few_bytes c.args.shape in
    omega arith

pub returns-clause-added : goal.returns-clause-added
returns-clause-added c =
    let out = c.args.out.now.items in
    let count = c.args.count in
    let time = c.args.mtime in
    let words = c.args.words.now in
    let n = segment_blocks c.args.shape / 8 in
    let bits = bitmap n (bits_of words (segment_blocks c.args.shape)) in
    let written = bitmap (c.segment_blocks.result / 8) (bits_of words (8 * (c.segment_blocks.result / 8))) in
    let front = (out ++ little_bytes 4 count) ++ little_bytes 8 time in
    IfOk-equal c.push_words.result _ _ _ c.push_words.ensures
    (ap (λ o. o ++ written) c.in_ok-extend_from_slice-2.ensures.items
    ∙ ap (λ o. (o ++ c.to_le_bytes-2.result) ++ written) c.in_ok-extend_from_slice.ensures.items
    ∙ ap (λ b. ((out ++ b) ++ c.to_le_bytes-2.result) ++ written) c.to_le_bytes.ensures
    ∙ ap (λ b. ((out ++ little_bytes 4 count) ++ b) ++ written) c.to_le_bytes-2.ensures
    ∙ ap (λ m. front ++ bitmap (m / 8) (bits_of words (8 * (m / 8)))) c.segment_blocks.ensures
    ∙ ap (λ m. front ++ bitmap n (bits_of words m)) (whole_bytes c.args.shape)
    ∙ ap (λ l. l ++ bits) (append_assoc out (little_bytes 4 count) (little_bytes 8 time))
    ∙ append_assoc out (little_bytes 4 count ++ little_bytes 8 time) bits)
