use Rattle.std.proofs.Common.{◌≡◌, ◌+◌, ◌-◌, ◌<◌, ◌≤◌, ◌∙◌, length, get_or, set, refl, sym, ap, arith}
use Rattle.nodes.specs.Padded.{padded}
use Rattle.nodes.proofs.Padding.{length-padded, length-more, padded-more, padded-set, padded-at}
use Rattle.nodes.proofs.slots.SlotsIndexMutUsize.index_mut.Goals as goal

pub returns : goal.returns
returns g c =
    let inside = c.self.inside in
    let stored = inside.stored.items in
    let some : 0 < length stored = omega (arith, c.self.invariant.0, inside.stored.ok.0) in
    let reached = c.reach.new.stored.items in
    let count = inside.count in
    let at = c.args.at in
    let slot = c.index_mut.result.now in
    let n = at + 1 + 1 - length stored in
    let view : padded count stored ≡ c.args.self.now.items = ap (λ s. s.items) c.self.view_is in
    let all : length (padded count stored) ≡ length c.args.self.now.items = ap length view in
    let most : length stored ≤ count + 1 = omega (arith, c.self.invariant.1, inside.stored.ok.0) in
    let wide = length-padded count stored some most in
    let fits : length stored + n ≤ count + 1 = omega (arith, c.requires) in
    let more : padded count reached ≡ padded count stored = padded-more count stored some n reached c.reach.ensures.items fits in
    let grown : length reached ≡ length stored + n = length-more count stored some n reached c.reach.ensures.items in
    let within : at + 1 < length reached = omega arith in
    let any : 0 < length reached = omega (arith, some) in (
      (refl, λ w. rw (← c.self.view_is) (λ i. record { items = (padded-set count reached any at w within ∙ ap (λ xs. set xs at w) more) i })),
      record {
        writes_back = tt;
        value = c.index_mut.ensures.value ∙ sym (padded-at count reached any at slot within) ∙ ap (λ xs. get_or xs at slot) (more ∙ view);
      },
    )
