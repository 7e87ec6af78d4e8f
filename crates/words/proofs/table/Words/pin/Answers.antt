use Rattle.std.proofs.Common.{rules, ◌≡◌, ◌%◌, [], ◌∷◌, ◌++◌, ap, sym, ◌∙◌, arith, subst}
use Rattle.words.specs.declared.claim.Life.{Life}
use Rattle.words.specs.declared.claim.Pins.{Pins}
use Rattle.words.specs.declared.claim.SeatClaim.TheVariants.{Stands, Reads}
use Rattle.words.specs.Claims.{life_of, pins_of, times, without_second}
use Rattle.words.specs.Tokens.{IsPinnable}
use Rattle.words.specs.Steps.{life_counted}
use Rattle.words.proofs.Calls.{pin_call}
use Rattle.words.proofs.table.Words.pin.Goals as goal

pub fetch_add-requires : goal.fetch_add-requires
fetch_add-requires c =
    let l : Life = life_of c.standing.inside.seat.me.0 in
    let p : Pins = pins_of c.seat.inside.seat.me.0 in
    let life = ap (λ k. k.life) c.standing.view_is in
    let held = ap (λ k. k.pins.held) c.seat.view_is in
    let reads : c.split_seat-reader.result.me.0 ≡ Reads p ∷ [] = ap (λ m. m.0) c.split_seat-reader.ensures.4 ∙ c.seat.invariant.0 in
    let both : c.standing.inside.seat.me.0 ++ c.split_seat-reader.result.me.0 ≡ Stands l ∷ Reads p ∷ [] = λ i. c.standing.invariant.0 i ++ reads i in (
      search rules,
      search rules,
      pin_call c.self.inside.table.shared.key.segments _ _ _ _ l p (ap (λ m. m.0) c.join_seat.ensures.2 ∙ both) c.standing.invariant.2
          (subst (λ k. IsPinnable k.state) (sym life) c.requires.state)
          (ap (λ k. times k p.held) (ap (λ k. k.segment) life) ∙ (ap (λ k. times c.args.standing.now.life.segment k) held ∙ c.requires.once)),
    )

pub returns-clause-standing : goal.returns-clause-standing
returns-clause-standing c =
    let l : Life = life_of c.standing.inside.seat.me.0 in
    let p : Pins = pins_of c.seat.inside.seat.me.0 in
    let reads : c.split_seat-reader.result.me.0 ≡ Reads p ∷ [] = ap (λ m. m.0) c.split_seat-reader.ensures.4 ∙ c.seat.invariant.0 in
    let both : c.standing.inside.seat.me.0 ++ c.split_seat-reader.result.me.0 ≡ Stands l ∷ Reads p ∷ [] = λ i. c.standing.invariant.0 i ++ reads i in
    let joined : life_of c.join_seat.new.seat.me.0 ≡ l = ap (λ m. life_of m.0) c.join_seat.ensures.2 ∙ ap life_of both in
    let few = c.fetch_add.ensures.2.2 in (
      c.fetch_add.result % 256,
      omega arith,
      c.split_seat-pinned.ensures.0 ∙ (c.fetch_add.ensures.0 ∙ (c.join_seat.ensures.0 ∙ ap (λ k. k.table) c.standing.view_is)),
      ap (λ m. life_of m.0) c.split_seat-pinned.ensures.2 ∙ (ap (λ v. life_of (without_second v)) c.fetch_add.ensures.2.1 ∙ ap (λ k. life_counted k (c.fetch_add.result % 256)) (joined ∙ ap (λ k. k.life) c.standing.view_is)),
    )
