use Rattle.std.proofs.Common.{◌≡◌, ◌+◌, ◌-◌, ◌*◌, ◌<◌, ◌≤◌, ℕ, subst, rules, arith}
use Rattle.geometry.specs.Shape.{block_bytes}
use Rattle.byte_files.proofs.Truncations.{in_last}
use Rattle.byte_files.proofs.open.Open.truncate.Goals as goal

pub lengthen-requires-clause-begins : goal.lengthen-requires-clause-begins
lengthen-requires-clause-begins g c =
    let end = c.end_of-end in
    let blocks : ℕ = end.result.blocks in
    let sized : c.from-size.result ≡ block_bytes g.V.Numbers.GeometryName.geometry.shape = search rules in
    let past = c.if-blocks-length.true in
    subst (λ s. (blocks - 1) * s < c.args.count) sized
    (in_last blocks end.result.from c.from-size.result c.args.count end.ensures.full end.ensures.part end.ensures.within (omega (arith, past))).0

pub lengthen-requires-clause-ends : goal.lengthen-requires-clause-ends
lengthen-requires-clause-ends g c =
    let end = c.end_of-end in
    let blocks : ℕ = end.result.blocks in
    let sized : c.from-size.result ≡ block_bytes g.V.Numbers.GeometryName.geometry.shape = search rules in
    let past = c.if-blocks-length.true in
    subst (λ s. c.args.count ≤ (blocks - 1 + 1) * s) sized
    (in_last blocks end.result.from c.from-size.result c.args.count end.ensures.full end.ensures.part end.ensures.within (omega (arith, past))).1
