use Rattle.std.proofs.Common.{◌≡◌, suc, ◌∙◌, ap, arith, add-one}
use Rattle.packs.specs.Parts.{place as place_of_part}
use Rattle.packs.proofs.Places.{place_next, place_within}
use Rattle.packs.proofs.parts.part_of.Goals as goal

pub split_at-requires : goal.split_at-requires
split_at-requires c =
    let g = c.args.geometry.now in
    let within = place_within g c.args.k (omega (arith, c.requires.within)) in
    omega (arith, c.place-from.ensures, within, c.requires.len)

pub overflow_sub-end : goal.overflow_sub-end
overflow_sub-end c =
    let g = c.args.geometry.now in
    let next = place_next g c.args.k in
    let end : c.place-end.result ≡ place_of_part g (suc c.args.k) = c.place-end.ensures ∙ ap (place_of_part g) (add-one c.args.k) in
    omega (arith, c.place-from.ensures, end, next)

pub split_at-requires-2 : goal.split_at-requires-2
split_at-requires-2 c =
    let g = c.args.geometry.now in
    let next = place_next g c.args.k in
    let within = place_within g (suc c.args.k) (omega (arith, c.requires.within)) in
    let end : c.place-end.result ≡ place_of_part g (suc c.args.k) = c.place-end.ensures ∙ ap (place_of_part g) (add-one c.args.k) in
    omega (arith, c.place-from.ensures, end, next, within, c.requires.len, c.split_at.ensures.back_len)
