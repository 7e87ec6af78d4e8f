use Rattle.std.proofs.Common.{rules, ◌≡◌, [], ◌∷◌, ◌++◌, ap, sym, ◌∙◌}
use Rattle.words.specs.declared.claim.Life.{Life}
use Rattle.words.specs.declared.claim.SeatClaim.TheVariants.{Stands, Slip}
use Rattle.words.specs.Claims.{life_of}
use Rattle.words.proofs.Calls.{open_call}
use Rattle.words.proofs.table.Words.open.Goals as goal

pub fetch_add-requires : goal.fetch_add-requires
fetch_add-requires c =
    let l : Life = life_of c.standing.inside.seat.me.0 in
    let seg : c.slip.inside.segment ≡ l.segment = ap (λ s. s.segment) c.slip.view_is ∙ (c.requires.slip.1 ∙ sym (ap (λ p. p.life.segment) c.standing.view_is)) in
    let both : c.standing.inside.seat.me.0 ++ c.slip.inside.seat.me.0 ≡ Stands l ∷ Slip c.slip.inside.segment ∷ [] = λ i. c.standing.invariant.0 i ++ c.slip.invariant.0 i in (
      search rules,
      search rules,
      open_call c.self.inside.table.shared.key.segments _ _ _ _ l (ap (λ m. m.0) c.join_seat.ensures.2 ∙ (both ∙ ap (λ k. Stands l ∷ Slip k ∷ []) seg)) c.standing.invariant.2,
    )
