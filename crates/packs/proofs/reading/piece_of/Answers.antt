use Rattle.std.proofs.Common.{◌≡◌, ◌≤◌, ◌-◌, ◌+◌, suc, ◌∙◌, ap, ℕ, arith, add-one}
use Rattle.packs.specs.Parts.{place as place_of_part}
use Rattle.packs.proofs.Places.{place_next}
use Rattle.packs.proofs.reading.piece_of.Goals as goal

pub overflow_sub-end : goal.overflow_sub-end
overflow_sub-end c =
    let geometry = c.args.geometry.now in
    let next = place_next geometry c.args.k in
    let end : c.place-end.result ≡ place_of_part geometry (suc c.args.k) = c.place-end.ensures ∙ ap (place_of_part geometry) (add-one c.args.k) in
    omega (arith, c.place-from.ensures, end, next)
