use Rattle.std.proofs.Common.{◌*◌, ◌≤◌, ◌++◌, ◌∙◌, ap, length, take, drop, replicate, arith}
use Rattle.pack_tables.proofs.Words.{words_spelled}
use Rattle.pack_tables.proofs.encoding.push_words.Goals as goal

pub returns : goal.returns
returns c =
    let words = c.args.words.now in
    let some = c.split_at.result.0.now in
    let out = c.args.out.now.items in
    let front = c.split_at.ensures.front ∙ ap (λ n. take n words) c.min.ensures in
    let long = c.split_at.ensures.front_len in
    let least = c.min.ensures in
    let few : length some ≤ 8 = omega arith in
    let zeros = drop (8 * length some) (replicate 64 0) in
    c.in_ok-extend_from_slice.ensures.items
    ∙ ap (λ b. out ++ take c.args.count (b ++ zeros)) c.write_u64_into.ensures
    ∙ ap (λ b. out ++ b) (words_spelled c.args.count words some c.requires front few)
