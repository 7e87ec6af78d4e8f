-- A segment has one standing and at most one appender for it: so two appenders that one seat has together are of two
-- segments, or that segment would have two.
use Rattle.std.proofs.Common.{◌≡◌, ◌≢◌, ℕ, ◌+◌, ◌<◌, ◌≤◌, List, [], ◌∷◌, sym, refl, ap, ◌∙◌, subst, arith}
use Rattle.std.proofs.lemmas.List.{set-get_or}
use mathlib.Core.Option.{none, some}
use lib.ListN.{get_elem?}
use Rattle.atomic_table.specs.Table.{State as Table, step, keeps, Allows}
use Rattle.atomic_table.proofs.Lists.{set_again}
use Rattle.geometry.specs.declared.state.State.{State}
use Rattle.geometry.specs.declared.state.State.TheVariants.{Free, Open, Sealed, Prefree}
use Rattle.geometry.specs.Weights.{weigh}
use Rattle.words.specs.declared.claim.SeatClaim.{SeatClaim}
use Rattle.words.specs.declared.claim.SeatClaim.TheVariants.{Stands, Slip, Appends, Reads, Checkpoint}
use Rattle.words.specs.Claims.{total, at, is_open, stands, opens, appends}
use Rattle.words.specs.Rule.{Law}
use Rattle.words.specs.Steps.{SeatState, shown_apart}
use Rattle.words.proofs.Counts.{at_here, at_mono, sum-in}
use Rattle.words.proofs.Standings.{Holds}

open_low : (st : State) → is_open st ≤ 1
open_low Free = omega arith
open_low Open = omega arith
open_low Sealed = omega arith
open_low Prefree = omega arith

opens_low : (s : ℕ) (c : SeatClaim) → opens s c ≤ stands s c
opens_low s (Stands l) = at_mono l.segment s (is_open l.state) 1 (open_low l.state)
opens_low s (Slip k) = omega arith
opens_low s (Appends k) = omega arith
opens_low s (Reads r) = omega arith
opens_low s (Checkpoint v) = omega arith

weigh_low : {X : Type 0} (f g : X → ℕ) (xs : List X) → ((x : X) → f x ≤ g x) → weigh f xs ≤ weigh g xs
weigh_low f g [] low = omega arith
weigh_low f g (x ∷ xs) low = let here = low x in let there = weigh_low f g xs low in omega arith

total_low : (s : ℕ) (views : List (List SeatClaim)) → total (opens s) views ≤ total (stands s) views
total_low s views =
    weigh_low (λ (v : List SeatClaim). weigh (opens s) v) (λ (v : List SeatClaim). weigh (stands s) v) views (λ v. weigh_low (opens s) (stands s) v (opens_low s))

module _ (n slots id word : ℕ) (me : SeatState) where
  apart_by : (s : Table (Unit {0}) (List SeatClaim)) → Law n s.words s.views → get_elem? s.views id ≡ some me.0
      → (a b : ℕ) → me.0 ≡ Appends a ∷ Appends b ∷ [] → a < n → a ≢ b
  apart_by s law at_id a b is low same =
      let mine : weigh (appends a) me.0 ≤ total (appends a) s.views = sum-in (λ u. weigh (appends a) u) s.views id me.0 at_id in
      let two : weigh (appends a) me.0 ≡ at a a 1 + (at b a 1 + 0) = ap (weigh (appends a)) is in
      let one = at_here a 1 in
      let other : at b a 1 ≡ at a a 1 = ap (λ k. at k a 1) (sym same) in
      let equal = law.one_appender a in
      let few = total_low a s.views in
      let single = law.one_standing a low in
      omega arith

  pub apart_call : (a b : ℕ) → me.0 ≡ Appends a ∷ Appends b ∷ [] → a < n → Allows (Holds n) slots id me word (λ x. x) (shown_apart (step slots word 0 0 none) me)
  apart_call a b is low s law _ at_id small = (
    me.0,
    keeps,
    tt,
    subst (λ (z : List ℕ × List (List SeatClaim)). Law n z.0 z.1) (λ k. (sym (set-get_or s.words word 0) k, sym (set_again s.views id me.0 at_id) k)) law,
    (refl, refl, λ a' b' is'. apart_by s law at_id a' b' is' (let same : a ≡ a' = first (sym is ∙ is') in omega arith)),
  )
    where
      first : {a a' b b' : ℕ} → ◌≡◌ {A = List SeatClaim} (Appends a ∷ Appends b ∷ []) (Appends a' ∷ Appends b' ∷ []) → a ≡ a'
      first e = ap number e
        where
          number : List SeatClaim → ℕ
          number [] = 0
          number (Stands l ∷ cs) = 0
          number (Slip k ∷ cs) = 0
          number (Appends k ∷ cs) = k
          number (Reads r ∷ cs) = 0
          number (Checkpoint v ∷ cs) = 0
