-- What a port puts or takes, its tally counts and the queue shows, and parts are only split and joined: so all tallies
-- together say what the queue holds, by every weight.
use Rattle.std.proofs.Common.{◌≡◌, ℕ, zero, suc, ◌+◌, ◌-◌, ◌<◌, ◌≤◌, List, [], ◌∷◌, ◌++◌, set, sym, refl, ap, arith}
use mathlib.Core.Option.{some, some-injective, some-ne-none}
use lib.ListN.{get_elem?}
use Rattle.crossbeam_queue.specs.Fifo.{Pushes, Pops, Forks, Merges, Learns}
use Rattle.pool.specs.declared.law.SlipTally.{SlipTally}
use Rattle.geometry.specs.Weights.{weigh}
use Rattle.geometry.proofs.Weighing.{weigh-append}
use Rattle.words.proofs.Counts.{sum-set, sum-in}
use Rattle.pool.specs.Law.{all_parts, tally, idle, SlipLaw, Moment, Settled, with_put, with_taken, both}
use Rattle.pool.proofs.Tallies.{idle_set, idle_snoc, total_whole}

only : (j : ℕ) (w u : SlipTally) → get_elem? (w ∷ []) j ≡ some u → w ≡ u
only zero w u at = some-injective w u at
only (suc j) w u at = absurd (some-ne-none u (sym at))

pub begins : SlipLaw [] (tally all_parts [] [] ∷ [])
begins = record {
  whole = refl;
  balance = λ h. refl;
  rest_idle = λ j u at none. let e = only j (tally all_parts [] []) u at in (ap (λ (y : SlipTally). y.put) (sym e), ap (λ (y : SlipTally). y.taken) (sym e));
}

-- the law stays where a port with a part puts or takes: what it has put more is what the queue holds more and it has taken more
counts : (port : ℕ) (v w : SlipTally) (items items' : List ℕ) (views : List SlipTally) → 0 < v.parts → w.parts ≡ v.parts
    → ((h : ℕ → ℕ) → weigh h items' + weigh h w.taken + weigh h v.put ≡ weigh h items + weigh h v.taken + weigh h w.put)
    → SlipLaw items views → get_elem? views port ≡ some v → SlipLaw items' (set views port w)
counts port v w items items' views some_part same more b at = record {
  whole = let s = sum-set (λ u. u.parts) views port v w at in let p = b.whole in omega (arith, s, p, same);
  balance = λ h.
      (let s = sum-set (λ u. weigh h u.put) views port v w at in
      let t = sum-set (λ u. weigh h u.taken) views port v w at in
      let p = b.balance h in
      let m = more h in omega (arith, s, t, p, m));
  rest_idle = idle_set views port w (λ none. absurd (omega (arith, none, some_part, same))) b.rest_idle;
}

pub puts : (n port : ℕ) (v : SlipTally) (x : ℕ) → 0 < v.parts → Pushes SlipLaw n port v x (λ w. w ≡ with_put v x)
puts n port v x some_part items views room b at = (
  with_put v x,
  counts port v (with_put v x) items (items ++ x ∷ []) views some_part refl (λ h. omega (arith, weigh-append h v.put (x ∷ []), weigh-append h items (x ∷ []))) b at,
  refl,
)

pub takes : (port : ℕ) (v : SlipTally) → 0 < v.parts → Pops SlipLaw port v (λ x w. w ≡ with_taken v x)
takes port v some_part x items views b at = (
  with_taken v x,
  counts port v (with_taken v x) (x ∷ items) items views some_part refl (λ h. omega (arith, weigh-append h v.taken (x ∷ []))) b at,
  refl,
)

pub forks : (port : ℕ) (v : SlipTally) → 1 < v.parts → Forks SlipLaw port v (tally (v.parts - 1) v.put v.taken) (tally 1 [] [])
forks port v more items views b at =
    let l = tally (v.parts - 1) v.put v.taken in
    let r = tally 1 [] [] in
    let sum : (f : SlipTally → ℕ) → weigh f (set views port l ++ r ∷ []) + f v ≡ (weigh f views + f l) + f r = λ f.
    (let s = sum-set f views port v l at in
    let t = weigh-append f (set views port l) (r ∷ []) in
    omega (arith, s, t)) in
    record {
      whole = let s = sum (λ u. u.parts) in let p = b.whole in omega (arith, s, p, more);
      balance = λ h. (let s = sum (λ u. weigh h u.put) in let t = sum (λ u. weigh h u.taken) in let p = b.balance h in omega (arith, s, t, p));
      rest_idle = idle_snoc (set views port l) r (λ none. absurd (omega (arith, none))) (idle_set views port l (λ none. absurd (omega (arith, none, more))) b.rest_idle);
    }

pub merges : (port : ℕ) (v : SlipTally) (other : ℕ) (u : SlipTally) → 0 < v.parts → Merges SlipLaw port v other u (both v u) idle
merges port v other u some_part items views b at apart at' =
    let w = both v u in
    let vs = set views port w in
    let sum : (f : SlipTally → ℕ) → f idle ≡ 0 → (weigh f (set vs other idle) + f u) + f v ≡ weigh f views + f w = λ f none.
    (let s = sum-set f views port v w at in
    let t = sum-set f vs other u idle at' in
    omega (arith, s, t, none)) in
    record {
      whole = let s = sum (λ u. u.parts) refl in let p = b.whole in omega (arith, s, p);
      balance = λ h.
          (let s = sum (λ u. weigh h u.put) refl in
          let t = sum (λ u. weigh h u.taken) refl in
          let p = b.balance h in
          omega (arith, s, t, p, weigh-append h v.put u.put, weigh-append h v.taken u.taken));
      rest_idle = idle_set vs other idle (λ _. (refl, refl)) (idle_set views port w (λ none. absurd (omega (arith, none, some_part))) b.rest_idle);
    }

-- parts are never more than there are
pub settles : (port : ℕ) (v : SlipTally) → all_parts ≤ v.parts → Learns SlipLaw port v (Settled v)
settles port v all items views b at =
    let most = sum-in (λ u. u.parts) views port v at in
    let sum = b.whole in
    let whole : weigh (λ u. u.parts) views ≡ v.parts = omega (arith, most, sum, all) in
    record {
      same = λ h.
          (let put = total_whole (λ u. weigh h u.put) (λ u p t. ap (weigh h) p) views port v at whole b.rest_idle in
          let taken = total_whole (λ u. weigh h u.taken) (λ u p t. ap (weigh h) t) views port v at whole b.rest_idle in
          let p = b.balance h in
          omega (arith, put, taken, p, weigh-append h v.taken items));
    }

pub moments : (port : ℕ) (v : SlipTally) → Learns SlipLaw port v (Moment v)
moments port v items views b at all = settles port v all items views b at
