use Rattle.std.proofs.Common.{◌≡◌, ◌*◌, ◌<◌, ◌^◌, length, drop, ◌∙◌, ap, arith}
use Rattle.std.proofs.lemmas.List.{take_at}
use Rattle.std.proofs.lemmas.List.Elements.{All-same}
use Rattle.image.specs.Node.{numbers}
use Rattle.image_codec.proofs.NumberLemmas.{numbers-read, numbers_read-fit}
use Rattle.image_codec.proofs.decode.read_numbers.Goals as goal

pub returns-clause-bytes : goal.returns-clause-bytes
returns-clause-bytes c =
    let dst = c.read_u32_into.new.dst in
    let same : length dst ≡ c.in_ok-xs.xs.len = omega (arith, c.read_u32_into.auto.dst, c.deref_mut.ensures.len) in
    let four : length c.args.bytes.now ≡ 4 * length dst = omega (arith, c.in_ok-xs.ensures.len, c.requires) in
    ap numbers (take_at dst (drop (length dst) c.in_ok-xs.xs.items) c.in_ok-xs.xs.len same)
    ∙ numbers-read dst c.args.bytes.now (λ k. omega (arith, c.type_inv.bytes k)) four c.read_u32_into.ensures

pub returns-clause-fit : goal.returns-clause-fit
returns-clause-fit c =
    let dst = c.read_u32_into.new.dst in
    let same : length dst ≡ c.in_ok-xs.xs.len = omega (arith, c.read_u32_into.auto.dst, c.deref_mut.ensures.len) in
    All-same (λ x. x < 2 ^ 32) _ dst (take_at dst (drop (length dst) c.in_ok-xs.xs.items) c.in_ok-xs.xs.len same)
    (numbers_read-fit dst c.args.bytes.now (λ k. omega (arith, c.type_inv.bytes k)) c.read_u32_into.ensures)
