use Rattle.std.proofs.Common.{rules, ◌≡◌, ◌<◌, [], ◌∷◌, ◌++◌, ap, ◌∙◌}
use Rattle.words.specs.declared.claim.SeatClaim.TheVariants.{Appends}
use Rattle.words.proofs.Apart.{apart_call}
use Rattle.words.proofs.table.Words.differ.Goals as goal

pub load-requires : goal.load-requires
load-requires c =
    let own : c.one.inside.seat.me.0 ≡ Appends c.one.inside.segment ∷ [] = c.one.invariant.0 in
    let second : c.split_seat-second.result.me.0 ≡ Appends c.other.inside.segment ∷ [] = ap (λ m. m.0) c.split_seat-second.ensures.4 ∙ c.other.invariant.0 in
    let both : c.one.inside.seat.me.0 ++ c.split_seat-second.result.me.0 ≡ Appends c.one.inside.segment ∷ Appends c.other.inside.segment ∷ [] = λ i. own i ++ second i in
    let low : c.one.inside.segment < c.self.inside.table.shared.key.segments = search rules in (
      search rules,
      search rules,
      apart_call c.self.inside.table.shared.key.segments _ _ _ _ c.one.inside.segment c.other.inside.segment (ap (λ m. m.0) c.join_seat.ensures.2 ∙ both) low,
    )
