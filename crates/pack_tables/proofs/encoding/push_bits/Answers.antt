use Rattle.std.proofs.Common.{◌≡◌, sym, ◌∙◌, ap, ℕ, suc, ◌+◌, ◌-◌, ◌<◌, min, Bool, List, [], ◌∷◌, ◌++◌, length, take, drop, append_assoc, arith}
use Rattle.std.proofs.lemmas.List.{drop_min}
use Rattle.image.specs.Pack.{bitmap, bits_number}
use Rattle.pack_tables.proofs.encoding.push_bits.Goals as goal

-- one byte of a bitmap, and the bytes after it
bitmap_step : (count k : ℕ) (rest after : List Bool) → k < count → after ≡ drop (min (length rest) 8) rest
    → bitmap (count - k) rest ≡ bits_number (take 8 rest) ∷ bitmap (count - (k + 1)) after
bitmap_step count k rest after below left =
    let more : count - k ≡ suc (count - (k + 1)) = omega arith in
    let same : min (length rest) 8 ≡ min 8 (length rest) = omega arith in
    let a : drop 8 rest ≡ after = sym (left ∙ ap (λ n. drop n rest) same ∙ drop_min 8 rest) in
    ap (λ n. bitmap n rest) more
    ∙ ap (λ l. bits_number (take 8 rest) ∷ bitmap (count - (k + 1)) l) a

pub loop-preserved : goal.loop-preserved
loop-preserved c =
    let after = c.split_at.result.1.now in
    let rest = c.loop.rest.now in
    let more = bitmap (c.args.count - (c.loop.counter + 1)) after in
    let step : bitmap (c.args.count - c.loop.counter) rest ≡ bits_number (take 8 rest) ∷ more
    = bitmap_step c.args.count c.loop.counter rest after c.loop-test.true
    (c.split_at.ensures.back ∙ ap (λ n. drop n rest) c.min.ensures) in
    ap (λ o. o ++ more) c.in_ok-push.ensures.items
    ∙ append_assoc c.loop.out.items (c.first_byte.result ∷ []) more
    ∙ ap (λ b. c.loop.out.items ++ b ∷ more) c.first_byte.ensures
    ∙ ap (λ l. c.loop.out.items ++ l) (sym step)
    ∙ c.loop.invariant
