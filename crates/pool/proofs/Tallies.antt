-- Sums over the tallies of all passes.
use Rattle.std.proofs.Common.{◌≡◌, ◌≢◌, ℕ, suc, List, [], ◌∷◌, ◌++◌, set, refl, subst, ⊎_elim, arith}
use mathlib.Core.Option.{some}
use lib.ListN.{get_elem?}
use Rattle.crossbeam_queue.proofs.Lists.{at_set, at_snoc}
use Rattle.geometry.specs.Weights.{weigh}
use Rattle.words.proofs.Counts.{sum-set}
use Rattle.pool.specs.declared.law.SlipTally.{SlipTally}
use Rattle.pool.specs.Law.{idle, IdleIsEmpty}

pub idle_set : (views : List SlipTally) (port : ℕ) (w : SlipTally) → (w.parts ≡ 0 → (w.put ≡ []) × (w.taken ≡ [])) → IdleIsEmpty views → IdleIsEmpty (set views port w)
idle_set views port w mine old j u at none = ⊎_elim
    (λ (here : (j ≡ port) × (w ≡ u)). subst (λ (y : SlipTally). y.parts ≡ 0 → (y.put ≡ []) × (y.taken ≡ [])) here.1 mine none)
    (λ (there : (j ≢ port) × (get_elem? views j ≡ some u)). old j u there.1 none) (at_set views port j w u at)

pub idle_snoc : (views : List SlipTally) (w : SlipTally) → (w.parts ≡ 0 → (w.put ≡ []) × (w.taken ≡ [])) → IdleIsEmpty views → IdleIsEmpty (views ++ w ∷ [])
idle_snoc views w mine old j u at none = ⊎_elim
    (λ (there : get_elem? views j ≡ some u). old j u there none)
    (λ (here : w ≡ u). subst (λ (y : SlipTally). y.parts ≡ 0 → (y.put ≡ []) × (y.taken ≡ [])) here mine none) (at_snoc views w u j at)

-- where no pass has a part, a sum of what is nothing for an idle pass is nothing
total_zero : (f : SlipTally → ℕ) → ((u : SlipTally) → u.put ≡ [] → u.taken ≡ [] → f u ≡ 0) → (views : List SlipTally) → weigh (λ v. v.parts) views ≡ 0 → IdleIsEmpty views → weigh f views ≡ 0
total_zero f none [] sum is = refl
total_zero f none (u ∷ us) sum is =
    let here = is 0 u refl (omega (arith, sum)) in
    let rest = total_zero f none us (omega (arith, sum)) (λ port v at. is (suc port) v at) in
    let mine = none u here.0 here.1 in
    omega (arith, rest, mine)

-- where one pass has every part, such a sum is that pass's
pub total_whole : (f : SlipTally → ℕ) → ((u : SlipTally) → u.put ≡ [] → u.taken ≡ [] → f u ≡ 0) → (views : List SlipTally) (port : ℕ) (v : SlipTally) → get_elem? views port ≡ some v → weigh (λ u. u.parts) views ≡ v.parts → IdleIsEmpty views → weigh f views ≡ f v
total_whole f none views port v at all is =
    let parts = sum-set (λ u. u.parts) views port v idle at in
    let sum = sum-set f views port v idle at in
    let nothing = none idle refl refl in
    let rest = total_zero f none (set views port idle) (omega (arith, parts, all)) (idle_set views port idle (λ _. (refl, refl)) is) in
    omega (arith, sum, rest, nothing)
