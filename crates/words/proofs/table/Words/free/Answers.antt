use Rattle.std.proofs.Common.{rules, ◌≡◌, ◌<◌, ap, ◌∙◌, arith}
use Rattle.words.specs.declared.claim.Life.{Life}
use Rattle.words.specs.Claims.{life_of, without_second}
use Rattle.words.specs.Steps.{life_seen, life_loaded, life_freed}
use Rattle.words.proofs.Calls.{free_call}
use Rattle.words.proofs.Lives.{freed-step}
use Rattle.words.proofs.table.Words.free.Goals as goal

pub fetch_sub-requires : goal.fetch_sub-requires
fetch_sub-requires c =
    let l : Life = life_of c.standing.inside.seat.me.0 in
    let is : l ≡ life_seen (life_loaded c.args.standing.now.life c.load_pins-pins.result) c.load_version-completed.result =
    ap (λ p. p.life) c.standing.view_is ∙ (c.load_version-completed.ensures.life ∙ ap (λ k. life_seen k c.load_version-completed.result) c.load_pins-pins.ensures.life) in
    let p = ap (λ k. k.pins) is in let s = ap (λ k. k.seen) is in let stamp = c.standing.invariant.3 in let none_left = c.if-pins-gt0.false in let later = c.if-completed-standing.false in (
      search rules,
      search rules,
      free_call c.self.inside.table.shared.key.segments _ _ _ _ l c.standing.invariant.0 c.standing.invariant.2 (ap (λ k. k.state) is ∙ c.requires.retired) (omega arith) (omega arith),
    )

pub returns : goal.returns
returns c =
    let is : life_of c.standing.inside.seat.me.0 ≡ life_seen (life_loaded c.args.standing.now.life c.load_pins-pins.result) c.load_version-completed.result =
    ap (λ p. p.life) c.standing.view_is ∙ (c.load_version-completed.ensures.life ∙ ap (λ k. life_seen k c.load_version-completed.result) c.load_pins-pins.ensures.life) in
    let old = ap (λ p. p.table) c.standing.view_is ∙ (c.load_version-completed.ensures.table ∙ c.load_pins-pins.ensures.table) in
    let stamp = ap (λ k. k.stamp) is in let mine = c.standing.invariant.3 in let later = c.if-completed-standing.false in
    let past : c.args.standing.now.life.stamp < c.load_version-completed.result = omega arith in
    let now : life_of c.split_seat-seat.new.seat.me.0 ≡ life_freed (life_seen (life_loaded c.args.standing.now.life 0) c.load_version-completed.result) =
    ap (λ m. life_of m.0) c.split_seat-seat.ensures.2 ∙ (ap (λ v. life_of (without_second v)) c.fetch_sub.ensures.2.1 ∙ ap life_freed is) in (
      c.load_version-completed.result,
      past,
      c.split_seat-seat.ensures.3 ∙ (c.fetch_sub.ensures.0 ∙ old),
      c.standing.invariant.2 ∙ ap (λ k. k.segment) is,
      c.split_seat-seat.ensures.0 ∙ (c.fetch_sub.ensures.0 ∙ old),
      now,
      freed-step c.args.standing.now.life (life_of c.split_seat-seat.new.seat.me.0) c.load_version-completed.result c.requires.retired past now,
    )
