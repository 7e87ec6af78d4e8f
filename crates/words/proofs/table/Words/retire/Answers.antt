use Rattle.std.proofs.Common.{rules, ◌≡◌, ◌%◌, ap, ◌∙◌, arith}
use Rattle.words.specs.declared.claim.Life.{Life}
use Rattle.words.specs.Claims.{life_of}
use Rattle.words.specs.Steps.{life_seen, life_retired}
use Rattle.words.proofs.Calls.{retire_call}
use Rattle.words.proofs.Lives.{retired-step}
use Rattle.words.proofs.table.Words.retire.Goals as goal

pub fetch_add-requires : goal.fetch_add-requires
fetch_add-requires c =
    let l : Life = life_of c.standing.inside.seat.me.0 in
    let is : l ≡ life_seen c.args.standing.now.life c.load_version-version.result = ap (λ p. p.life) c.standing.view_is ∙ c.load_version-version.ensures.life in
    let i = ap (λ k. k.incarnation) is in let s = ap (λ k. k.seen) is in let later = c.load_version-version.ensures.later.1 in (
      search rules,
      search rules,
      retire_call c.self.inside.table.shared.key.segments _ _ _ _ l c.standing.invariant.0 c.standing.invariant.2 (ap (λ k. k.state) is ∙ c.requires.sealed) (omega arith),
    )

pub returns : goal.returns
returns c =
    let is : life_of c.standing.inside.seat.me.0 ≡ life_seen c.args.standing.now.life c.load_version-version.result = ap (λ p. p.life) c.standing.view_is ∙ c.load_version-version.ensures.life in
    let now : life_of c.fetch_add.new.seat.me.0 ≡ life_retired (life_seen c.args.standing.now.life c.load_version-version.result) (c.fetch_add.result % 256) =
    ap life_of c.fetch_add.ensures.2.1 ∙ ap (λ k. life_retired k (c.fetch_add.result % 256)) is in (
      c.load_version-version.result,
      c.fetch_add.result % 256,
      c.fetch_add.ensures.2.2,
      c.load_version-version.ensures.later.0,
      c.fetch_add.ensures.0 ∙ (ap (λ p. p.table) c.standing.view_is ∙ c.load_version-version.ensures.table),
      now,
      retired-step c.args.standing.now.life (life_of c.fetch_add.new.seat.me.0) c.load_version-version.result (c.fetch_add.result % 256) c.requires.sealed now,
    )
