-- What was read are the first rows and the rest of the bytes; a row with an offset in no segment is no log's, so with
-- it the bytes are no rows at all.
use Rattle.std.proofs.Common.{◌≡◌, sym, ◌∙◌, ℕ, ◌-◌, ◌^◌, ◌<◌, List, [], ◌∷◌, Option, Some, None, arith}
use Rattle.std.specs.Prelude.{IfSome}
use Rattle.image.specs.declared.image.LogHead.{LogHead}
use Rattle.image.specs.Node.{numbers}
use Rattle.image.specs.Pack.{log_bytes}
use Rattle.pack_tables.specs.Grammar.{IsPlaceRow}
use Rattle.pack_tables.proofs.Bytes.{pair_same}
use Rattle.pack_tables.proofs.Widths.{log_long}
use Rattle.pack_tables.proofs.Fronts.{front_next, front_all, front_not}
use Rattle.pack_tables.proofs.rows.decode_logs.Goals as goal

abbrev IsLog : Option LogHead → Type 0
IsLog log = IfSome log IsPlaceRow

-- an offset beside the number that stands for none
no_log : (row : List ℕ) (segment next : ℕ) → numbers (segment ∷ next ∷ []) ≡ row → segment < 2 ^ 32 → next < 2 ^ 32
    → ((segment ≡ 2 ^ 32 - 1 → next ≡ 0) → ⊥) → (log : Option LogHead) → IsLog log → log_bytes log ≡ row → ⊥
no_log row segment next is low small apart None fits same =
    apart (λ _. sym ((pair_same (2 ^ 32 - 1) 0 segment next (omega arith) (omega arith) low small (same ∙ sym is)).1))
no_log row segment next is low small apart (Some place) fits same =
    let e = (pair_same place.segment place.next segment next (omega (arith, fits.0)) fits.1 low small (same ∙ sym is)).0 in
    let below = fits.0 in
    apart (λ none. absurd (omega arith))

pub returns-then-not-is_log : goal.returns-then-not-is_log
returns-then-not-is_log c =
    let row = c.split_at.result.0.now in
    let pair = c.pair_of-segment.result in
    front_not log_bytes IsLog 8 log_long (omega arith) row c.split_at.result.1.now c.split_at.ensures.front_len
    (no_log row pair.0 pair.1 c.pair_of-segment.ensures.bytes c.pair_of-segment.ensures.small.0 c.pair_of-segment.ensures.small.1
    (λ whole. let other = c.if-not-is_log.true in let is = c.is_log.ensures.1 whole in cc))
    c.loop.counter c.args.count c.args.bytes.now c.loop.rest.now c.loop.logs.items c.loop.invariant.read c.split_at.ensures.by_index.0

pub loop-preserved : goal.loop-preserved
loop-preserved c =
    record {
      read = front_next log_bytes IsLog c.loop.counter c.args.bytes.now c.loop.rest.now c.split_at.result.0.now c.split_at.result.1.now
          c.loop.logs.items c.push.new.self.items c.place_of.result
          c.loop.invariant.read c.split_at.ensures.by_index.0 c.in_ok-push.ensures.items
          (c.place_of.ensures.bytes ∙ c.pair_of-segment.ensures.bytes) c.place_of.ensures.fits;
      left = omega (arith, c.loop.invariant.left, c.split_at.ensures.back_len);
    }

pub returns : goal.returns
returns c =
    front_all log_bytes IsLog c.loop.counter c.args.count c.args.bytes.now c.loop.rest.now c.loop.logs.items c.loop.invariant.read
    (omega (arith, c.loop-test.false, c.loop.auto.counter-end)) (omega (arith, c.loop-test.false, c.loop.invariant.left))
