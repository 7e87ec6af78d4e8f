use Rattle.std.proofs.Common.{[], ◌∷◌, ap, arith}
use Rattle.geometry.specs.Weights.{weigh}
use Rattle.geometry.proofs.Weighing.{weigh-append}
use Rattle.mount_blocks.specs.TreeGoods.{in_place}
use Rattle.mount_blocks.proofs.stock.free_table.Goals as goal

pub loop-place-preserved : goal.loop-place-preserved
loop-place-preserved g c =
    let weight = in_place (λ _. 1) in
    let all = ap (weigh weight) c.in-Some.ensures.items in
    let parts = weigh-append weight c.pop.new.self.items (c.in-Some.place ∷ []) in
    omega arith

pub unreachable-requires : goal.unreachable-requires
unreachable-requires g c =
    let weight = in_place (λ _. 1) in
    let all = ap (weigh weight) c.in-Some.ensures.items in
    let parts = weigh-append weight c.pop.new.self.items (c.in-Some.place ∷ []) in
    let one = ap weight c.in-Some-place.is in
    absurd (omega arith)
