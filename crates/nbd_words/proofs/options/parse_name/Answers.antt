-- The number of the name's bytes, the name, the number of what is wanted, and what is wanted stand one behind the other.
use Rattle.std.proofs.Common.{◌≡◌, ◌+◌, ◌-◌, ◌*◌, ◌++◌, ◌≤◌, ℕ, List, refl, sym, take, drop, length, arith}
use Rattle.std.proofs.lemmas.List.{length-drop, length-take-le}
use Rattle.std.specs.Int.{w16, w32, to_be_bytes}
use Rattle.nbd_words.proofs.Pieces.{piece}
use Rattle.nbd_words.proofs.options.parse_name.Goals as goal

pub returns-clause-some : goal.returns-clause-some
returns-clause-some c =
    let content : List ℕ = c.args.content.now in
    let n : ℕ = c.u32_at-name.result in
    let count : ℕ = c.u16_at-wanted.result in
    let name : List ℕ = take n (drop 4 content) in
    let wanted : List ℕ = drop (4 + n + 2) content in
    let six : 6 ≤ length content = c.if-content-lt6.false in
    let room : n ≤ length content - 6 = c.if-content-name.false in
    let rest : length content - 6 - n ≡ 2 * count = c.if-content-name-2.false in
    let enough : n ≤ length (drop 4 content) = let long = length-drop 4 content in omega (arith, long, room, six) in
    let each : length wanted ≡ 2 * count = let long = length-drop (4 + n + 2) content in omega (arith, long, rest, room, six) in
    let three : drop (4 + n) content ≡ to_be_bytes w16 count ++ wanted = piece (4 + n) 2 content (to_be_bytes w16 count) wanted c.u16_at-wanted.ensures refl in
    let two : drop 4 content ≡ name ++ (to_be_bytes w16 count ++ wanted) = piece 4 n content name _ refl (sym three) in
    record {
      fits = c.u32_at-name.type_inv;
      name = name;
      long = length-take-le n (drop 4 content) enough;
      count = count;
      few = c.u16_at-wanted.type_inv;
      wanted = wanted;
      each = each;
      spelled = piece 0 4 content (to_be_bytes w32 n) _ c.u32_at-name.ensures (sym two);
    }
