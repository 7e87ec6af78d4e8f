use Rattle.std.proofs.Common.{rules, ◌≡◌, [], ◌∷◌, ◌++◌, ap, ◌∙◌}
use Rattle.words.specs.declared.claim.Life.{Life}
use Rattle.words.specs.declared.claim.Pins.{Pins}
use Rattle.words.specs.declared.claim.SeatClaim.TheVariants.{Stands, Reads}
use Rattle.words.specs.Claims.{life_of, pins_of}
use Rattle.words.proofs.Calls.{agree_call}
use Rattle.words.proofs.table.Words.agree.Goals as goal

pub load-requires : goal.load-requires
load-requires c =
    let l : Life = life_of c.standing.inside.seat.me.0 in
    let p : Pins = pins_of c.seat.inside.seat.me.0 in
    let reads : c.split_seat-reader.result.me.0 ≡ Reads p ∷ [] = ap (λ m. m.0) c.split_seat-reader.ensures.4 ∙ c.seat.invariant.0 in
    let both : c.standing.inside.seat.me.0 ++ c.split_seat-reader.result.me.0 ≡ Stands l ∷ Reads p ∷ [] = λ i. c.standing.invariant.0 i ++ reads i in (
      search rules,
      search rules,
      agree_call c.self.inside.table.shared.key.segments _ _ _ _ l p (ap (λ m. m.0) c.join_seat.ensures.2 ∙ both) c.standing.invariant.2,
    )
