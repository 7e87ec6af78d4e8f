use Rattle.std.proofs.Common.{rules, ◌≡◌, [], ◌∷◌, ◌++◌, ap, sym, ◌∙◌}
use Rattle.words.specs.declared.claim.Life.{Life}
use Rattle.words.specs.declared.claim.SeatClaim.TheVariants.{Stands, Appends}
use Rattle.words.specs.Claims.{life_of}
use Rattle.words.proofs.Calls.{open_shown_call}
use Rattle.words.proofs.table.Words.is_open.Goals as goal

pub load-requires : goal.load-requires
load-requires c =
    let l : Life = life_of c.standing.inside.seat.me.0 in
    let seg : c.slip.inside.segment ≡ l.segment = ap (λ s. s.segment) c.slip.view_is ∙ (c.requires.slip.1 ∙ sym (ap (λ p. p.life.segment) c.standing.view_is)) in
    let appends : c.split_seat-appender.result.me.0 ≡ Appends c.slip.inside.segment ∷ [] = ap (λ m. m.0) c.split_seat-appender.ensures.4 ∙ c.slip.invariant.0 in
    let both : c.standing.inside.seat.me.0 ++ c.split_seat-appender.result.me.0 ≡ Stands l ∷ Appends c.slip.inside.segment ∷ [] = λ i. c.standing.invariant.0 i ++ appends i in (
      search rules,
      search rules,
      open_shown_call c.self.inside.table.shared.key.segments _ _ _ _ l (ap (λ m. m.0) c.join_seat.ensures.2 ∙ (both ∙ ap (λ k. Stands l ∷ Appends k ∷ []) seg)) c.standing.invariant.2,
    )
