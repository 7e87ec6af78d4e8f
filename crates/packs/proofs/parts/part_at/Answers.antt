use Rattle.std.proofs.Common.{◌≡◌, ◌≤◌, ◌<◌, ◌+◌, ◌∙◌, ap, ℕ, arith}
use Rattle.packs.specs.Parts.{place as place_of_part, body_bytes, slot_at as place_of_slot, lies as slot_of_part}
use Rattle.packs.proofs.Apart.{part_fits}
use Rattle.packs.proofs.Keeping.{lies_within}
use Rattle.packs.proofs.Sizes.{is_small}
use Rattle.packs.proofs.parts.part_at.Goals as goal

sum_is : (a b x y : ℕ) → a ≡ x → b ≡ y → a + b ≡ x + y
sum_is a b x y p q = omega (arith, p, q)

below : (a n m l w : ℕ) → a + n ≤ m → m < w → a < w
below a n m l w p q = omega (arith, p, q)

pub overflow_add-result : goal.overflow_add-result
overflow_add-result c =
    let g = c.args.geometry.now in
    let slot = slot_of_part c.args.slot c.args.other in
    let fits = part_fits g slot c.args.k (lies_within c.args.slot c.args.other c.requires.0) c.requires.1 in
    let at : c.slot_at.result ≡ place_of_slot (body_bytes g) slot = c.slot_at.ensures ∙ ap (λ (n : ℕ). place_of_slot n c.lies.result) c.body_bytes.ensures ∙ ap (place_of_slot (body_bytes g)) c.lies.ensures.number in
    let sum = sum_is _ _ _ _ at c.place.ensures in
    let small = below (place_of_slot (body_bytes g) slot + place_of_part g c.args.k) _ _ 0 _ fits (is_small g) in
    omega (arith, sum, small)

pub returns-clause-within : goal.returns-clause-within
returns-clause-within c =
    let g = c.args.geometry.now in
    let slot = slot_of_part c.args.slot c.args.other in
    let fits = part_fits g slot c.args.k (lies_within c.args.slot c.args.other c.requires.0) c.requires.1 in
    let at : c.slot_at.result ≡ place_of_slot (body_bytes g) slot = c.slot_at.ensures ∙ ap (λ (n : ℕ). place_of_slot n c.lies.result) c.body_bytes.ensures ∙ ap (place_of_slot (body_bytes g)) c.lies.ensures.number in
    rw (at, c.place.ensures) fits
