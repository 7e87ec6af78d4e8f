-- What the seat has left are the standings and slips from the next segment on, and the readers: so each turn splits off
-- the next segment's two, and at the end the readers are left.
use Rattle.std.proofs.Common.{◌≡◌, ℕ, ◌<◌, ◌-◌, ◌+◌, List, [], ◌∷◌, ◌++◌, replicate, ap, sym, ◌∙◌, arith}
use Rattle.words.specs.declared.claim.SeatClaim.{SeatClaim}
use Rattle.words.specs.declared.claim.SeatClaim.TheVariants.{Checkpoint, Stands, Slip, Reads}
use Rattle.words.specs.Claims.{fresh_life, fresh_pins, fresh_segments, life_of, second, without_second}
use Rattle.words.specs.Tokens.{Post, FreeSegment, fresh_post, fresh_slip}
use Rattle.words.proofs.Dealing.{segments_less, posts_more, slips_more}
use Rattle.words.proofs.deal.deal_segments.Goals as goal

-- what the seat has before the next segment's claims are split off
dealt_next : (version k n : ℕ) (rest had : List SeatClaim) → had ≡ Checkpoint version ∷ (fresh_segments k (n - k) ++ rest) → k < n
    → had ≡ Checkpoint version ∷ Stands (fresh_life k) ∷ Slip k ∷ (fresh_segments (k + 1) (n - (k + 1)) ++ rest)
dealt_next version k n rest had is low = is ∙ ap (λ r. Checkpoint version ∷ (r ++ rest)) (segments_less k n low)

pub invariant_of-push : goal.invariant_of-push
invariant_of-push c =
    let k : ℕ = c.loop-segment.segment in
    let n : ℕ = c.args.words.now.segments in
    let is = dealt_next c.args.version k n (replicate c.args.seats (Reads fresh_pins)) c.loop-segment.seat.me.0 c.loop-segment.invariant.3 (let end = c.loop-segment.invariant.2 in let test = c.loop-segment-test.true in omega arith) in
    let own : c.split_seat-own.result.me.0 ≡ Stands (fresh_life k) ∷ [] = ap (λ m. m.0) c.split_seat-own.ensures.4 ∙ ap second is in
    let table = c.split_seat-own.ensures.3 ∙ (c.loop-segment.invariant.0 ∙ (c.requires.table ∙ sym (ap (λ w. w.table) c.words.view_is))) in
    let wide = ap (λ t. t.words) table in
    let long = c.words.invariant.1 in (
      own ∙ ap (λ l. Stands l ∷ []) (sym (ap life_of own)),
      ap (λ m. m.1) c.split_seat-own.ensures.4,
      sym (ap (λ v. (life_of v).segment) own),
      sym (ap (λ v. (life_of v).stamp) own),
      omega arith,
    )

pub invariant_of-push-in-loop-segment : goal.invariant_of-push-in-loop-segment
invariant_of-push-in-loop-segment c =
    let k : ℕ = c.loop-segment.segment in
    let n : ℕ = c.args.words.now.segments in
    let is = dealt_next c.args.version k n (replicate c.args.seats (Reads fresh_pins)) c.loop-segment.seat.me.0 c.loop-segment.invariant.3 (let end = c.loop-segment.invariant.2 in let test = c.loop-segment-test.true in omega arith) in
    let table = c.split_seat-slip.ensures.3 ∙ (c.split_seat-own.ensures.0 ∙ (c.loop-segment.invariant.0 ∙ (c.requires.table ∙ sym (ap (λ w. w.table) c.words.view_is)))) in
    let wide = ap (λ t. t.words) table in
    let long = c.words.invariant.1 in (
      ap (λ m. m.0) c.split_seat-slip.ensures.4 ∙ ap second (ap (λ m. m.0) c.split_seat-own.ensures.2 ∙ ap without_second is),
      ap (λ m. m.1) c.split_seat-slip.ensures.4,
      omega arith,
    )

pub loop-segment-preserved : goal.loop-segment-preserved
loop-segment-preserved c =
    let k : ℕ = c.loop-segment.segment in
    let n : ℕ = c.args.words.now.segments in
    let is = dealt_next c.args.version k n (replicate c.args.seats (Reads fresh_pins)) c.loop-segment.seat.me.0 c.loop-segment.invariant.3 (let end = c.loop-segment.invariant.2 in let test = c.loop-segment-test.true in omega arith) in
    let own : c.split_seat-own.result.me.0 ≡ Stands (fresh_life k) ∷ [] = ap (λ m. m.0) c.split_seat-own.ensures.4 ∙ ap second is in
    let after : c.split_seat-own.new.seat.me.0 ≡ Checkpoint c.args.version ∷ Slip k ∷ (fresh_segments (k + 1) (n - (k + 1)) ++ replicate c.args.seats (Reads fresh_pins)) = ap (λ m. m.0) c.split_seat-own.ensures.2 ∙ ap without_second is in
    let old = c.loop-segment.invariant.0 ∙ c.requires.table in
    let p : Post = record { table = c.split_seat-own.result.table_id; life = life_of c.split_seat-own.result.me.0 } in
    let post : p ≡ fresh_post c.args.words.now.table k = λ i. record { table = (c.split_seat-own.ensures.3 ∙ old) i; life = life_of (own i) } in
    let s : FreeSegment = record { table = c.split_seat-slip.result.table_id; segment = k } in
    let slip : s ≡ fresh_slip c.args.words.now.table k = λ i. record { table = (c.split_seat-slip.ensures.3 ∙ (c.split_seat-own.ensures.0 ∙ old)) i; segment = k } in (
      c.split_seat-slip.ensures.0 ∙ (c.split_seat-own.ensures.0 ∙ c.loop-segment.invariant.0),
      ap (λ m. m.1) c.split_seat-slip.ensures.2 ∙ (ap (λ m. m.1) c.split_seat-own.ensures.2 ∙ c.loop-segment.invariant.1),
      c.loop-segment.invariant.2,
      ap (λ m. m.0) c.split_seat-slip.ensures.2 ∙ ap without_second after,
      c.in_ok-push.ensures.items ∙ ((λ i. c.loop-segment.invariant.4 i ++ post i ∷ []) ∙ sym (posts_more c.args.words.now.table k)),
      c.in_default.ensures.items ∙ ((λ i. c.loop-segment.invariant.5 i ++ slip i ∷ []) ∙ sym (slips_more c.args.words.now.table k)),
    )
