-- Each page from the first one on is touched in its turn, and none is given up.
use Rattle.std.proofs.Common.{◌≡◌, ◌≢◌, sym, subst, ◌∙◌, ℕ, ◌+◌, ◌*◌, ◌/◌, ◌<◌, ◌≤◌, ⊎_elim, true, arith}
use Rattle.std.proofs.lemmas.Bool.{cases_eq}
use Rattle.packs_journal.specs.Pages.{has_page}
use Rattle.checkpoint_image.proofs.touched_body.touch.Goals as goal

pub loop-k-init : goal.loop-k-init
loop-k-init c = record { touched = λ j low high. absurd (omega (arith, low, high)); others = λ j is. is }

pub loop-k-preserved : goal.loop-k-preserved
loop-k-preserved c =
    let k = c.loop-k.k in
    let pages = c.loop-k.pages in
    let before = c.loop-k.invariant in
    let insert = c.insert in
    let here : (j : ℕ) → (j ≢ k → has_page pages j ≡ true) → has_page insert.new.self j ≡ true
    = λ j there. ⊎_elim (λ same. subst (λ (n : ℕ). has_page insert.new.self n ≡ true) (sym same) insert.ensures.inserted) (λ apart. insert.ensures.others j apart ∙ there apart) (cases_eq j k) in
    record {
      touched = λ j low high. here j (λ apart. before.touched j low (omega (arith, high, apart)));
      others = λ j is. here j (λ _. before.others j is);
    }

pub returns-clause-touched : goal.returns-clause-touched
returns-clause-touched c = λ k lies. c.loop-k.invariant.touched k (omega (arith, lies.0)) (omega (arith, lies.1))
