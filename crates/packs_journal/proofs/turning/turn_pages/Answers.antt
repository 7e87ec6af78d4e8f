-- Each page that is gone through is the body's by the new map, and the pack that counts stays by the old one.
use Rattle.std.proofs.Common.{◌≡◌, sym, ◌∙◌, ap, ⊎_elim, ℕ, ◌+◌, ◌<◌, ◌≤◌, length, drop, arith, length-drop}
use Rattle.std.proofs.lemmas.Bool.{cases_eq}
use Rattle.std.proofs.lemmas.List.{take_all}
use Rattle.packs_journal.specs.Places.{page_count as pages_of, page_start}
use Rattle.packs_journal.specs.Reading.{page_in}
use Rattle.packs_journal.specs.Staging.{body_page}
use Rattle.packs_journal.proofs.Gathering.{start_end, gathered_whole}
use Rattle.packs_journal.proofs.Maps.{named_turned}
use Rattle.packs_journal.proofs.Beside.{step_on, beside_on}
use Rattle.packs_journal.proofs.turning.turn_pages.Goals as goal

pub returns-in_err-put_page-clause-named : goal.returns-in_err-put_page-clause-named
returns-in_err-put_page-clause-named g c =
    named_turned (pages_of (length c.args.body.now)) c.loop-k.k c.loop-k.map c.put_page.new.map (omega (arith, c.loop-k-test.true, c.page_count-k-end.ensures)) c.put_page.ensures.others c.loop-k.invariant.named

pub returns-in_err-put_page-clause-beside : goal.returns-in_err-put_page-clause-beside
returns-in_err-put_page-clause-beside g c =
    let seen = g.M.Meta.seen in
    let meta = c.args.meta.now in
    beside_on (length c.args.body.now) c.args.slot c.args.map.now (seen meta) (seen c.loop-k.meta) (seen c.put_page.new.meta) (c.requires.mapped.mapped (seen meta) (g.met.M.Meta.seen_is_left meta)) c.loop-k.invariant.beside
    (c.put_page.ensures.beside c.args.map.now (sym (c.loop-k.invariant.rest c.loop-k.k (omega arith))))

pub returns-in_err-put_page-clause-any_moment : goal.returns-in_err-put_page-clause-any_moment
returns-in_err-put_page-clause-any_moment g c =
    step_on g.M.Meta.seen g.M.Meta.may_leave g.M.Meta.moment g.M.Meta.left_since g.met.M.Meta.only_now g.met.M.Meta.counts_now (length c.args.body.now) c.args.slot c.args.map.now c.args.meta.now c.loop-k.meta c.put_page.new.meta
    c.requires.mapped.mapped c.loop-k.invariant.moments (c.put_page.ensures.any_moment c.args.map.now (sym (c.loop-k.invariant.rest c.loop-k.k (omega arith))))

pub put_page-requires-clause-differs : goal.put_page-requires-clause-differs
put_page-requires-clause-differs g c = λ out.
    let k = c.loop-k.k in
    let below : k < pages_of (length c.args.body.now) = omega (arith, c.loop-k-test.true, c.page_count-k-end.ensures) in
    c.loop-k.invariant.stays k (omega arith) below ∙ c.requires.differs k below out

pub loop-k-preserved : goal.loop-k-preserved
loop-k-preserved g c =
    let seen = g.M.Meta.seen in
    let meta = c.args.meta.now in
    let inv = c.loop-k.invariant in
    let k = c.loop-k.k in
    let body = c.args.body.now in
    let len = length body in
    let below : k < pages_of len = omega (arith, c.loop-k-test.true, c.page_count-k-end.ensures) in
    let same = sym (inv.rest k (omega arith)) in
    record {
      done = λ j less. ⊎_elim
          (λ (here : j ≡ k). ap (λ (i : ℕ). page_in len c.put_page.new.map i (seen c.put_page.new.meta)) here ∙ c.in_ok-put_page.ensures.page ∙ ap (λ (i : ℕ). body_page len i body) (sym here))
          (λ apart. c.put_page.ensures.pages j (before j k (pages_of len) less apart below) apart ∙ inv.done j (earlier j k less apart))
          (cases_eq j k);
      rest = λ j more. c.put_page.ensures.others j (later j k more) ∙ inv.rest j (omega (arith, more));
      stays = λ j more less. c.put_page.ensures.pages j less (later j k more) ∙ inv.stays j (omega (arith, more)) less;
      named = named_turned (pages_of len) k c.loop-k.map c.put_page.new.map below c.put_page.ensures.others inv.named;
      beside = beside_on len c.args.slot c.args.map.now (seen meta) (seen c.loop-k.meta) (seen c.put_page.new.meta) (c.requires.mapped.mapped (seen meta) (g.met.M.Meta.seen_is_left meta)) inv.beside
          (c.put_page.ensures.beside c.args.map.now same);
      moments = step_on seen g.M.Meta.may_leave g.M.Meta.moment g.M.Meta.left_since g.met.M.Meta.only_now g.met.M.Meta.counts_now len c.args.slot c.args.map.now meta c.loop-k.meta c.put_page.new.meta
          c.requires.mapped.mapped inv.moments (c.put_page.ensures.any_moment c.args.map.now same);
      failed = omega (arith, inv.failed, c.put_page.ensures.cause.later);
    }
  where
    before : (j k p : ℕ) → j < k + 1 → (j ≡ k → ⊥) → k < p → j < p
    before j k p less apart below = omega (arith, less, apart, below)

    earlier : (j k : ℕ) → j < k + 1 → (j ≡ k → ⊥) → j < k
    earlier j k less apart = omega (arith, less, apart)

    later : (j k : ℕ) → k + 1 ≤ j → j ≡ k → ⊥
    later j k more is = omega (arith, more, is)

pub returns-clause-turned : goal.returns-clause-turned
returns-clause-turned g c =
    let body = c.args.body.now in
    let len = length body in
    let k : c.loop-k.k ≡ pages_of len = omega (arith, c.loop-k-test.false, c.loop-k.auto.k-end, c.page_count-k-end.ensures) in
    let end = start_end len in
    gathered_whole len c.loop-k.map (pages_of len) body (g.M.Meta.seen c.loop-k.meta) (λ j below. c.loop-k.invariant.done j (omega (arith, k, below)))
    ∙ take_all (page_start len (pages_of len)) (drop 56 body) (omega (arith, end, length-drop 56 body))
