use Rattle.std.proofs.Common.{◌≡◌, ◌-◌, length, take, get_or, ap, None, sym, subst, ◌∙◌, arith}
use Rattle.std.proofs.lemmas.List.{length-replicate, length-take-le}
use Rattle.image.specs.View.{image_view}
use Rattle.nodes.specs.Tree.{entry_at}
use Rattle.nodes.proofs.Padding.{nothing-at}
use Rattle.mount_blocks.proofs.TreePlaces.{front_same}
use Rattle.mount_blocks.proofs.entries.make_rooms.Goals as goal

pub rooms_below-requires : goal.rooms_below-requires
rooms_below-requires g c =
    let same = front_same c.args.numbers.now c.used_of-used.result c.used_of-used.ensures.past in
    let fits = c.requires.fits in
    record { fits = (fits.0, λ k. subst (λ n. g.C.Load.fits (image_view c.args.image.now) c.args.entries fits.0 n) (sym (same k)) (fits.1 k)) }

pub returns-in-Ok : goal.returns-in-Ok
returns-in-Ok g c =
    let numbers = c.args.numbers.now in
    let count = length numbers in
    let used = c.used_of-used.result in
    let is = c.in_ok-slots.ensures in
    let made = c.in-Ok.ensures.count in
    let front : length (take used numbers) ≡ used = length-take-le used numbers c.used_of-used.ensures.within in
    let same = front_same numbers used c.used_of-used.ensures.past in
    let roomy = g.C.Load.roomy (image_view c.args.image.now) in
    record {
      room = record {
        places = ap length is ∙ length-replicate count None;
        empty = λ k. ap (λ slots. entry_at slots k) is ∙ nothing-at count k;
        few = let within = c.used_of-used.ensures.within in omega arith;
        past = λ k le. c.used_of-used.ensures.past k (omega arith);
        below = λ k other lt. subst (λ n. roomy n (get_or c.in-Ok.below.items k other))
            (same (length (take used numbers) - 1 - k) ∙ ap (λ m. get_or numbers (m - 1 - k) 0) (sym made)) (c.in-Ok.ensures.each k other lt);
      };
    }
