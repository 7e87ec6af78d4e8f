-- The rows of a round are those behind the rounds before it, so what they spell is added behind what was spelled.
use Rattle.std.proofs.Common.{◌≡◌, ◌+◌, ◌*◌, ◌∙◌, sym, ap, subst, List, ◌++◌, append_assoc, length, take, drop, min, arith}
use Rattle.std.proofs.lemmas.Grind.{flat_map-append}
use Rattle.std.proofs.lemmas.List.{take_min}
use Rattle.std.proofs.lemmas.List.Elements.{All-append}
use Rattle.std.specs.Prelude.{All}
use Rattle.std.specs.List.{flat_map}
use Rattle.pack_tables.proofs.Chunks.{take_both}
use Rattle.pack_tables.proofs.encoding.push_rows.Goals as goal

pub loop-round-preserved : goal.loop-round-preserved
loop-round-preserved g c =
    let f = g.P.Pair.bytes in
    let xs = c.args.rows.now in
    let round = c.loop-round.round in
    let begun = c.loop-round.out.items in
    let out = c.args.out.now.items in
    let before = take (64 * round) xs in
    let rest = c.split_at.result.1.now in
    let some = c.split_at-in-loop-round.result.0.now in
    let same : min (length rest) 64 ≡ min 64 (length rest) = omega arith in
    let behind : rest ≡ drop (64 * round) xs = c.split_at.ensures.back in
    let is : some ≡ take 64 (drop (64 * round) xs)
    = c.split_at-in-loop-round.ensures.front ∙ ap (λ n. take n rest) (c.min.ensures ∙ same) ∙ take_min 64 rest ∙ ap (take 64) behind in
    let more : 64 * (round + 1) ≡ 64 * round + 64 = omega arith in
    let whole : take (64 * (round + 1)) xs ≡ before ++ some
    = ap (λ n. take n xs) more ∙ take_both (64 * round) 64 xs ∙ ap (λ (l : List g.row.P.Denot). before ++ l) (sym is) in
    record {
      added = c.in_ok-extend_from_slice.ensures.items
          ∙ ap (λ b. begun ++ b) c.write_rows.ensures.bytes
          ∙ ap (λ o. o ++ flat_map f some) c.loop-round.invariant.added
          ∙ append_assoc out (flat_map f before) (flat_map f some)
          ∙ ap (λ l. out ++ l) (sym (flat_map-append f before some))
          ∙ ap (λ (l : List g.row.P.Denot). out ++ flat_map f l) (sym whole);
      small = subst (λ (l : List g.row.P.Denot). All g.P.Pair.small l) (sym whole)
          (All-append g.P.Pair.small before some c.loop-round.invariant.small c.write_rows.ensures.small);
    }
