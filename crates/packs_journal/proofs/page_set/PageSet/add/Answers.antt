use Rattle.std.proofs.Common.{◌≡◌, refl, sym, ◌∙◌, ap, ⊎_elim, ℕ, ◌+◌, ◌<◌, ◌≤◌, length, get_or, set, bit_or, arith}
use Rattle.packs_journal.specs.Places.{map_bytes}
use Rattle.std.proofs.lemmas.Bool.{cases_eq}
use Rattle.std.proofs.lemmas.List.{get_or-set_same, get_or-set_other}
use Rattle.packs_journal.proofs.Sets.{both_bits}
use Rattle.packs_journal.proofs.page_set.PageSet.add.Goals as goal

pub loop-i-init : goal.loop-i-init
loop-i-init c = record { done = λ j less. absurd (omega (arith, less)); rest = λ j more. refl }

pub loop-i-preserved : goal.loop-i-preserved
loop-i-preserved c =
    let i = c.loop-i.i in
    let was = c.loop-i.self.bits in
    let old = c.args.self.now.bits in
    let other = c.args.other.now.bits in
    let inv = c.loop-i.invariant in
    let within : i < length was = omega (arith, c.loop-i-test.true) in
    let put = bit_or (get_or was i 0) (get_or other i 0) in
    record {
      done = λ j less. ⊎_elim
          (λ (here : j ≡ i). ap (λ (n : ℕ). get_or (set was i put) n 0) here ∙ get_or-set_same was i put 0 within
          ∙ ap (λ (x : ℕ). bit_or x (get_or other i 0)) (inv.rest i (omega arith)) ∙ ap (λ (n : ℕ). bit_or (get_or old n 0) (get_or other n 0)) (sym here))
          (λ apart. get_or-set_other was i j put 0 apart ∙ inv.done j (earlier j i less apart))
          (cases_eq j i);
      rest = λ j more. get_or-set_other was i j put 0 (later j i more) ∙ inv.rest j (omega (arith, more));
    }
  where
    earlier : (j k : ℕ) → j < k + 1 → (j ≡ k → ⊥) → j < k
    earlier j k less apart = omega (arith, less, apart)

    later : (j k : ℕ) → k + 1 ≤ j → j ≡ k → ⊥
    later j k more is = omega (arith, more, is)

pub returns : goal.returns
returns c =
    let end : c.loop-i.i ≡ map_bytes = omega (arith, c.loop-i-test.false, c.loop-i.auto.i-end) in
    both_bits c.loop-i.self.bits c.args.self.now.bits c.args.other.now.bits
    (λ i less. c.loop-i.invariant.done i (omega (arith, end, less))) (λ i more. c.loop-i.invariant.rest i (omega (arith, end, more))) (omega arith)
