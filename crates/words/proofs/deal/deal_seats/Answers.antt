use Rattle.std.proofs.Common.{◌≡◌, ◌-◌, ◌+◌, [], ◌∷◌, ◌++◌, replicate, ap, sym, ◌∙◌}
use Rattle.words.specs.declared.claim.SeatClaim.TheVariants.{Checkpoint, Reads}
use Rattle.words.specs.Claims.{fresh_pins, pins_of, second, without_second}
use Rattle.words.specs.Tokens.{Holder, fresh_holder}
use Rattle.words.proofs.Dealing.{replicate_less, replicate_more}
use Rattle.words.proofs.deal.deal_seats.Goals as goal

pub invariant_of-push : goal.invariant_of-push
invariant_of-push c =
    let lt = c.loop-index-test.true in
    let is : c.loop-index.seat.me.0 ≡ Checkpoint c.args.version ∷ Reads fresh_pins ∷ replicate (c.args.count - (c.loop-index.index + 1)) (Reads fresh_pins) =
    c.loop-index.invariant.2 ∙ ap (λ r. Checkpoint c.args.version ∷ r) (replicate_less (Reads fresh_pins) c.loop-index.index c.args.count lt) in
    let own : c.split_seat-own.result.me.0 ≡ Reads fresh_pins ∷ [] = ap (λ m. m.0) c.split_seat-own.ensures.4 ∙ ap second is in
    (own ∙ ap (λ p. Reads p ∷ []) (sym (ap pins_of own)), ap (λ m. m.1) c.split_seat-own.ensures.4)

pub loop-index-preserved : goal.loop-index-preserved
loop-index-preserved c =
    let lt = c.loop-index-test.true in
    let is : c.loop-index.seat.me.0 ≡ Checkpoint c.args.version ∷ Reads fresh_pins ∷ replicate (c.args.count - (c.loop-index.index + 1)) (Reads fresh_pins) =
    c.loop-index.invariant.2 ∙ ap (λ r. Checkpoint c.args.version ∷ r) (replicate_less (Reads fresh_pins) c.loop-index.index c.args.count lt) in
    let own : c.split_seat-own.result.me.0 ≡ Reads fresh_pins ∷ [] = ap (λ m. m.0) c.split_seat-own.ensures.4 ∙ ap second is in
    let table = c.split_seat-own.ensures.3 ∙ (c.loop-index.invariant.0 ∙ c.requires.table) in
    let e : Holder = record { table = c.split_seat-own.result.table_id; pins = pins_of c.split_seat-own.result.me.0 } in
    let holder : e ≡ fresh_holder c.args.words.now.table = λ i. record { table = table i; pins = pins_of (own i) } in (
      c.split_seat-own.ensures.0 ∙ c.loop-index.invariant.0,
      ap (λ m. m.1) c.split_seat-own.ensures.2 ∙ c.loop-index.invariant.1,
      ap (λ m. m.0) c.split_seat-own.ensures.2 ∙ ap without_second is,
      c.in_ok-push.ensures.items ∙ ((λ i. c.loop-index.invariant.3 i ++ holder i ∷ []) ∙ sym (replicate_more (fresh_holder c.args.words.now.table) c.loop-index.index)),
    )
