use Rattle.std.proofs.Common.{◌≡◌, ◌++◌, ◌∷◌, ap, sym, subst, ◌∙◌, [], false, None, map, replicate, arith}
use Rattle.std.proofs.lemmas.List.{replicate-append-replicate}
use Rattle.std.specs.Prelude.{is_some}
use Rattle.sit.specs.Home.{AreAtHome, content_at, contents_of, failures_of}
use Rattle.sit.proofs.Lists.{map_replicate}
use Rattle.sit.proofs.Homes.{failures-none, nobody-home}
use Rattle.sit.proofs.blocks.Blocks.new.Goals as goal

pub loop-place-init : goal.loop-place-init
loop-place-init g c = (c.in_ok-blocks.ensures.items, c.in_ok-blocks.ensures.capacity)

pub loop-place-preserved : goal.loop-place-preserved
loop-place-preserved g c =
    let room = c.push_reserved.ensures.capacity in
    let enough = c.loop-place.invariant.1 in (
      c.push_reserved.ensures.items ∙ (ap (λ xs. xs ++ None ∷ []) c.loop-place.invariant.0 ∙ replicate-append-replicate c.loop-place._place 1 None),
      omega arith,
    )

pub invariant_of-result : goal.invariant_of-result
invariant_of-result g c =
    subst (AreAtHome g.B.Block.address_of g.B.Block.content_of c.args.first c.args.block_bytes) (sym c.loop-place.invariant.0)
    (nobody-home g.B.Block.address_of g.B.Block.content_of c.args.first c.args.block_bytes c.loop-place._place)

pub returns-clause-ok : goal.returns-clause-ok
returns-clause-ok g c =
    let end = c.loop-place.auto in
    let test = c.loop-place-test.false in
    let count : c.loop-place._place ≡ c.args.count = omega arith in
    let present : map is_some c.loop-place.blocks.items ≡ replicate c.args.count false =
    ap (map is_some) (c.loop-place.invariant.0 ∙ ap (λ n. replicate n None) count) ∙ map_replicate is_some c.args.count None in
    let contents : contents_of g.B.Block.content_of c.loop-place.blocks.items ≡ replicate c.args.count [] =
    ap (contents_of g.B.Block.content_of) (c.loop-place.invariant.0 ∙ ap (λ n. replicate n None) count) ∙ map_replicate (content_at g.B.Block.content_of) c.args.count None in
    let failed : failures_of g.B.Block.failed c.loop-place.blocks.items ≡ 0 = ap (failures_of g.B.Block.failed) c.loop-place.invariant.0 ∙ failures-none g.B.Block.failed c.loop-place._place in
    λ i. record { first = c.args.first; block_bytes = c.args.block_bytes; present = present i; contents = contents i; failed = failed i }
