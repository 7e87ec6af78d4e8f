use Rattle.std.proofs.Common.{rules, ◌≡◌, ◌%◌, [], ◌∷◌, ◌++◌, ap, sym, ◌∙◌}
use Rattle.geometry.specs.declared.state.State.TheVariants.{Open}
use Rattle.words.specs.declared.claim.Life.{Life}
use Rattle.words.specs.declared.claim.SeatClaim.TheVariants.{Stands, Appends}
use Rattle.words.specs.Claims.{life_of}
use Rattle.words.specs.Steps.{life_sealed}
use Rattle.words.proofs.Calls.{seal_call}
use Rattle.words.proofs.Lives.{sealed-step}
use Rattle.words.proofs.table.Words.seal.Goals as goal

pub fetch_add-requires : goal.fetch_add-requires
fetch_add-requires c =
    let l : Life = life_of c.standing.inside.seat.me.0 in
    let seg : c.slip.inside.segment ≡ l.segment = ap (λ s. s.segment) c.slip.view_is ∙ (c.requires.slip.1 ∙ sym (ap (λ p. p.life.segment) c.standing.view_is)) in
    let both : c.standing.inside.seat.me.0 ++ c.slip.inside.seat.me.0 ≡ Stands l ∷ Appends c.slip.inside.segment ∷ [] = λ i. c.standing.invariant.0 i ++ c.slip.invariant.0 i in (
      search rules,
      search rules,
      seal_call c.self.inside.table.shared.key.segments _ _ _ _ l (ap (λ m. m.0) c.join_seat.ensures.2 ∙ (both ∙ ap (λ k. Stands l ∷ Appends k ∷ []) seg)) c.standing.invariant.2,
    )

pub returns : goal.returns
returns c =
    let l : Life = life_of c.standing.inside.seat.me.0 in
    let both : c.standing.inside.seat.me.0 ++ c.slip.inside.seat.me.0 ≡ Stands l ∷ Appends c.slip.inside.segment ∷ [] = λ i. c.standing.invariant.0 i ++ c.slip.invariant.0 i in
    let joined : life_of c.join_seat.new.seat.me.0 ≡ c.args.standing.now.life = ap (λ m. life_of m.0) c.join_seat.ensures.2 ∙ (ap life_of both ∙ ap (λ p. p.life) c.standing.view_is) in
    let now : life_of c.fetch_add.new.seat.me.0 ≡ life_sealed c.args.standing.now.life (c.fetch_add.result % 256) = ap life_of c.fetch_add.ensures.2.1 ∙ ap (λ k. life_sealed k (c.fetch_add.result % 256)) joined in
    let was : c.args.standing.now.life.state ≡ Open = sym (ap (λ k. k.state) joined) ∙ c.fetch_add.ensures.2.3 in (
      c.fetch_add.result % 256,
      c.fetch_add.ensures.2.2,
      was,
      c.fetch_add.ensures.0 ∙ (c.join_seat.ensures.0 ∙ ap (λ p. p.table) c.standing.view_is),
      now,
      sealed-step c.args.standing.now.life (life_of c.fetch_add.new.seat.me.0) (c.fetch_add.result % 256) was now,
    )
