use Rattle.std.proofs.Common.{◌≡◌, sym, ◌∙◌, ap, ◌+◌, [], ◌∷◌, ◌++◌, length, get_or, length-append, arith}
use Rattle.std.proofs.lemmas.List.{take_more}
use Rattle.image.specs.Pack.{bitmap, bits_number}
use Rattle.image.specs.Reading.{number_bits}
use Rattle.pack_tables.proofs.Bits.{bitmap_more, number_of_bits, length-number_bits}
use Rattle.pack_tables.proofs.rows.decode_bits.Goals as goal

pub loop-byte-preserved : goal.loop-byte-preserved
loop-byte-preserved c =
    let k = c.loop-byte.byte-index in
    let bytes = c.args.bytes.now in
    let byte = get_or bytes k 0 in
    let eight = number_bits 8 byte in
    let pushed : c.push_bits.new.bits.items ≡ c.loop-byte.bits.items ++ eight = c.in_ok-push_bits.ensures in
    let eight_long : length eight ≡ 8 = length-number_bits 8 byte in
    let worth : bits_number eight ≡ byte = number_of_bits 8 byte (omega (arith, c.type_inv.bytes k)) in
    record {
      long = ap length pushed ∙ length-append c.loop-byte.bits.items eight ∙ omega (arith, c.loop-byte.invariant.long, eight_long);
      read = ap (bitmap (k + 1)) pushed
          ∙ bitmap_more k c.loop-byte.bits.items eight c.loop-byte.invariant.long eight_long
          ∙ ap (λ b. bitmap k c.loop-byte.bits.items ++ b ∷ []) worth
          ∙ ap (λ f. f ++ byte ∷ []) c.loop-byte.invariant.read
          ∙ sym (take_more bytes k 0 c.loop-byte-test.true);
    }
