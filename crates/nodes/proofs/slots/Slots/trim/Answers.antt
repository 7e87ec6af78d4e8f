use Rattle.std.proofs.Common.{◌≡◌, ◌+◌, ◌-◌, ◌<◌, ◌≤◌, ◌∙◌, length, sym, ap, arith}
use Rattle.nodes.specs.Padded.{padded}
use Rattle.nodes.proofs.Padding.{padded-more}
use Rattle.nodes.proofs.slots.Slots.trim.Goals as goal

pub returns : goal.returns
returns g c =
    let inside = c.self.inside in
    let left = c.drop_last.new.stored in
    let stored = left.items in
    let some : 0 < length stored = omega (arith, c.drop_last.ensures.some, left.ok.0) in
    let n = length inside.stored.items - length stored in
    let most : length inside.stored.items ≤ inside.count + 1 = omega (arith, c.self.invariant.1, inside.stored.ok.0) in
    let fewer : length stored ≤ length inside.stored.items = omega (arith, c.drop_last.ensures.fewer, left.ok.0, inside.stored.ok.0) in
    let fits : length stored + n ≤ inside.count + 1 = omega arith in
    let same : padded inside.count inside.stored.items ≡ padded inside.count stored = padded-more inside.count stored some n inside.stored.items (rw (← left.ok.0, ← inside.stored.ok.0) c.drop_last.ensures.items) fits in
    ap (λ xs. record { items = xs }) (sym same) ∙ c.self.view_is
