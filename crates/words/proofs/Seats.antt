-- Cut or joined, seats hold the same claims together, and the rule sees their sums alone; the version only grows, and
-- at the start each segment has one standing and its slip.
use Rattle.std.proofs.Common.{◌≡◌, ◌≢◌, ℕ, zero, suc, ◌+◌, ◌%◌, ◌^◌, ◌<◌, ◌≤◌, List, [], ◌∷◌, ◌++◌, length, get_or, set, replicate, sym, refl, ap, ◌∙◌, subst, arith, length-set, get_or-set_same, get_or-set_other}
use Rattle.std.proofs.lemmas.List.{length-replicate}
use mathlib.Core.Logic.{dite}
use native.Mathlib.Decide.{ℕ_discrete}
use mathlib.Core.Option.{none, some}
use lib.ListN.{get_elem?}
use Rattle.atomic_table.specs.Table.{step, keeps, Allows, Splits, Joins}
use Rattle.atomic_table.proofs.Lists.{set_else}
use Rattle.geometry.specs.declared.state.State.{State}
use Rattle.geometry.specs.declared.state.State.TheVariants.{Free, Open, Sealed, Prefree}
use Rattle.geometry.specs.Weights.{weigh}
use Rattle.words.specs.declared.claim.SeatClaim.{SeatClaim}
use Rattle.words.specs.declared.claim.SeatClaim.TheVariants.{Stands, Slip, Appends, Reads, Checkpoint}
use Rattle.words.specs.Claims.{Every, total, at, stands, stands_at, rank, frees, opens, room, slips, appends, pins, pins_at, readers, checkpoints, version, fresh_life, fresh_pins, fresh_segments, opening_view, without_second, second}
use Rattle.words.specs.Rule.{IsDated, Sound, Law}
use Rattle.words.specs.Steps.{advanced}
use Rattle.words.proofs.Counts.{at_same, at_other, at_zero, sum-append, sum-set, sum-only, sum-none, sum-replicate, sum-ones, every-append, every-set, every-get, every-replicate}
use Rattle.words.proofs.Keeps.{moved, changed, regrouped}
use Rattle.words.proofs.Standings.{Holds}

no_version : (c : SeatClaim) → checkpoints c ≡ 0 → version c ≡ 0
no_version (Stands l) h = refl
no_version (Slip k) h = refl
no_version (Appends k) h = refl
no_version (Reads r) h = refl
no_version (Checkpoint v) h = absurd (omega arith)

dated_later : (st : State) (c d i stamp : ℕ) → c ≤ d → IsDated st c i stamp → IsDated st d i stamp
dated_later Free c d i stamp le h = omega arith
dated_later Open c d i stamp le h = omega arith
dated_later Sealed c d i stamp le h = omega arith
dated_later Prefree c d i stamp le h = let a : i ≤ stamp = h.0 in let b : stamp ≤ c = h.1 in (a, omega arith)

sound_later : (n c d : ℕ) → c ≤ d → (k : SeatClaim) → Sound n c k → Sound n d k
sound_later n c d le (Stands l) h = let b : l.seen ≤ c = h.1 in (h.0, omega arith, dated_later l.state c d l.incarnation l.stamp le h.2)
sound_later n c d le (Slip k) h = tt
sound_later n c d le (Appends k) h = tt
sound_later n c d le (Reads r) h = let b : r.seen ≤ c = h.1 in (h.0, omega arith)
sound_later n c d le (Checkpoint v) h = tt

pub advances : (n slots id : ℕ) (c : List (ℕ × Unit {0})) (v : ℕ) → v + 1 < 4294967296
    → Allows (Holds n) slots id (Checkpoint v ∷ [], c) n (λ x. (x + 1) % 2 ^ 64) (advanced (step slots n 1 0 none) (Checkpoint v ∷ [], c))
advances n slots id c v small s law _ at_id _ =
    let x : ℕ = get_or s.words n 0 in
    let w : List SeatClaim = Checkpoint (v + 1) ∷ [] in
    let all = law.one_checkpoint in
    let mine : total version s.views ≡ v + 0 =
    sum-only (λ u. weigh checkpoints u) (λ u. weigh version u) s.views id (Checkpoint v ∷ []) (λ u. sum-none checkpoints version u no_version) at_id refl all in
    let is : x ≡ v = let e = law.completed in omega arith in
    let mv = moved n s.words s.views law id (Checkpoint v ∷ []) w at_id in
    let long : length s.words ≡ n + 1 = law.wide in
    let y : ℕ = (x + 1) % 18446744073709551616 in
    let yes : y ≡ x + 1 = omega arith in
    let last : get_or (set s.words n y) n 0 ≡ y = get_or-set_same s.words n y 0 (omega arith) in (
      w,
      keeps,
      tt,
      changed n s.words s.views law id (Checkpoint v ∷ []) w at_id (set s.words n y) (length-set s.words n y ∙ law.wide)
          (λ z lt. let ne : z ≢ n = omega arith in let e : get_or (set s.words n y) z 0 ≡ get_or s.words z 0 = get_or-set_other s.words n z y 0 ne in omega arith)
          (omega arith) (omega arith) (omega arith) (record {
            alike = record { standings = λ z. refl; one_checkpoint = refl; free_slips = λ z. refl; open_appenders = λ z. refl; same_readers = refl };
            within = λ z. let a = mv (pins z) in let b = mv (room z) in let e = law.within z in omega arith;
            same_life = λ z i. let a = mv (pins_at z i) in let b = mv (stands_at z i) in let e = law.same_life z i in omega arith;
          })
          (tt, tt)
          (sound_later n x (get_or (set s.words n y) n 0) (omega arith)),
      (refl, refl, is),
    )

pub joins : (n id : ℕ) (v : List SeatClaim) (other : ℕ) (w : List SeatClaim) → Joins (Holds n) id v other w (v ++ w) []
joins n id v other w s law at_v apart at_w =
    let at_w' : get_elem? s.views other ≡ some w = sym (set_else s.views id other (v ++ w) apart) ∙ at_w in
    regrouped n s.words s.views law (set (set s.views id (v ++ w)) other [])
    (λ f. let a = sum-set (λ u. weigh f u) s.views id v (v ++ w) at_v in let b = sum-set (λ u. weigh f u) (set s.views id (v ++ w)) other w [] at_w in let e = sum-append f v w in omega arith)
    (λ P h. every-set (Every P) (set s.views id (v ++ w)) other []
    (every-set (Every P) s.views id (v ++ w) h (every-append P v w (every-get (Every P) s.views id v h at_v) (every-get (Every P) s.views other w h at_w'))) tt)

cut : (n id : ℕ) (v left right : List SeatClaim) → ((f : SeatClaim → ℕ) → weigh f left + weigh f right ≡ weigh f v) → ((P : SeatClaim → Type 0) → Every P v → Every P left × Every P right) → Splits (Holds n) id v left right
cut n id v left right same every s law at_v =
    regrouped n s.words s.views law (set s.views id left ++ right ∷ [])
    (λ f. let a = sum-set (λ u. weigh f u) s.views id v left at_v in let b = sum-append (λ u. weigh f u) (set s.views id left) (right ∷ []) in let e = same f in omega arith)
    (λ P h. let k = every P (every-get (Every P) s.views id v h at_v) in
    every-append (Every P) (set s.views id left) (right ∷ []) (every-set (Every P) s.views id left h k.0) (k.1, tt))

pub cuts_second : (n id : ℕ) (v : List SeatClaim) → Splits (Holds n) id v (without_second v) (second v)
cuts_second n id [] = cut n id [] [] [] (λ f. refl) (λ P h. (tt, tt))
cuts_second n id (a ∷ []) = cut n id (a ∷ []) (a ∷ []) [] (λ f. omega arith) (λ P h. (h, tt))
cuts_second n id (a ∷ b ∷ cs) = cut n id (a ∷ b ∷ cs) (a ∷ cs) (b ∷ []) (λ f. omega arith) (λ P h. ((h.0, h.1.1), (h.1.0, tt)))

pub cuts_whole : (n id : ℕ) (v : List SeatClaim) → Splits (Holds n) id v [] v
cuts_whole n id v = cut n id v [] v (λ f. omega arith) (λ P h. (tt, h))

-- that seats may be cut and joined
pub ruleset cuts_and_joins = (cuts_second, cuts_whole, joins)

-- the start

nothing : (f : SeatClaim → ℕ) (a count : ℕ) → ((s : ℕ) → f (Stands (fresh_life s)) ≡ 0) → ((s : ℕ) → f (Slip s) ≡ 0) → weigh f (fresh_segments a count) ≡ 0
nothing f a zero x y = refl
nothing f a (suc count) x y = let p = x a in let q = y a in let r = nothing f (suc a) count x y in omega arith

alike : (f g : SeatClaim → ℕ) (a count : ℕ) → ((s : ℕ) → f (Stands (fresh_life s)) + f (Slip s) ≡ g (Stands (fresh_life s)) + g (Slip s)) → weigh f (fresh_segments a count) ≡ weigh g (fresh_segments a count)
alike f g a zero x = refl
alike f g a (suc count) x = let p = x a in let r = alike f g (suc a) count x in omega arith

before : (s a count : ℕ) → s < a → weigh (stands s) (fresh_segments a count) ≡ 0
before s a zero h = refl
before s a (suc count) h = let ne : s ≢ a = omega arith in let k = at_other a s 1 ne in let r = before s (suc a) count (omega arith) in omega arith

once : (s a count : ℕ) → a ≤ s → s < a + count → weigh (stands s) (fresh_segments a count) ≡ 1
once s a zero h k = absurd (omega arith)
once s a (suc count) h k = dite (ℕ_discrete s a)
    (λ e. let w : at a s 1 ≡ 1 = at_same a s 1 (sym e) in let r = before s (suc a) count (omega arith) in omega arith)
    (λ ne. let w = at_other a s 1 ne in let r = once s (suc a) count (omega arith) (omega arith) in omega arith)

fresh_sound : (n completed a count : ℕ) → a + count ≤ n → 0 < completed → Every (Sound n completed) (fresh_segments a count)
fresh_sound n completed a zero h k = tt
fresh_sound n completed a (suc count) h k = ((omega arith, omega arith, k), (tt, fresh_sound n completed (suc a) count (omega arith) k))

module _ (n seats start : ℕ) where
  sums : (f : SeatClaim → ℕ) → f (Reads fresh_pins) ≡ 0 → total f (opening_view n seats start ∷ []) ≡ f (Checkpoint start) + weigh f (fresh_segments 0 n)
  sums f z = let a = sum-append f (fresh_segments 0 n) (replicate seats (Reads fresh_pins)) in let b = sum-replicate f seats (Reads fresh_pins) z in omega arith

  pub opens_lawful : (words : List ℕ) → length words ≡ n + 1 → ((s : ℕ) → s < n → get_or words s 0 ≡ 0) → get_or words n 0 ≡ start → 0 < start → start < 4294967296 → seats ≤ 64
      → Law n words (opening_view n seats start ∷ [])
  opens_lawful words wide blank last pos bound few = record {
    wide = wide;
    one_standing = λ s h. let a = sums (stands s) refl in let b = once s 0 n (omega arith) (omega arith) in omega arith;
    one_checkpoint = let a = sums checkpoints refl in let b = nothing checkpoints 0 n (λ s. refl) (λ s. refl) in omega arith;
    encoded = λ s h. let a = sums (rank s) refl in let b = nothing (rank s) 0 n (λ k. at_zero k s) (λ k. refl) in
        let c = sums (pins s) refl in let d = nothing (pins s) 0 n (λ k. refl) (λ k. refl) in let e = blank s h in omega arith;
    completed = let a = sums version refl in let b = nothing version 0 n (λ s. refl) (λ s. refl) in omega arith;
    bounded = omega arith;
    one_slip = λ s. let a = sums (slips s) refl in let b = sums (frees s) refl in let c = alike (slips s) (frees s) 0 n (λ k. omega arith) in omega arith;
    one_appender = λ s. let a = sums (appends s) refl in let b = nothing (appends s) 0 n (λ k. refl) (λ k. refl) in
        let c = sums (opens s) refl in let d = nothing (opens s) 0 n (λ k. at_zero k s) (λ k. refl) in omega arith;
    within = λ s. let c = sums (pins s) refl in let d = nothing (pins s) 0 n (λ k. refl) (λ k. refl) in omega arith;
    same_life = λ s i. let c = sums (pins_at s i) refl in let d = nothing (pins_at s i) 0 n (λ k. refl) (λ k. refl) in omega arith;
    few_readers = let a = sum-append readers (fresh_segments 0 n) (replicate seats (Reads fresh_pins)) in let b = nothing readers 0 n (λ s. refl) (λ s. refl) in
        let c = sum-ones readers seats (Reads fresh_pins) refl in omega arith;
    sound = (
      (
        tt,
        every-append (Sound n (get_or words n 0)) (fresh_segments 0 n) (replicate seats (Reads fresh_pins)) (fresh_sound n (get_or words n 0) 0 n (omega arith) (omega arith))
            (every-replicate (Sound n (get_or words n 0)) seats (Reads fresh_pins) ((λ s. omega arith), omega arith)),
      ),
      tt,
    );
  }

blank_at : (k s : ℕ) → ◌≡◌ {A = ℕ} (get_or (replicate k 0) s 0) 0
blank_at zero s = refl
blank_at (suc k) zero = refl
blank_at (suc k) (suc s) = blank_at k s

pub opening_call : (n seats start : ℕ) (row words : List ℕ) → row ≡ replicate (n + 1) 0 → words ≡ set row n start → 0 < start → start < 4294967296 → seats ≤ 64
    → Law n words (opening_view n seats start ∷ [])
opening_call n seats start row words is made pos bound few =
    let zeros : List ℕ = replicate (n + 1) 0 in
    let long : length zeros ≡ n + 1 = length-replicate (n + 1) 0 in
    subst (λ ws. Law n ws (opening_view n seats start ∷ [])) (sym (made ∙ ap (λ r. set r n start) is))
    (opens_lawful n seats start (set zeros n start) (length-set zeros n start ∙ long)
    (λ s h. let ne : s ≢ n = omega arith in get_or-set_other zeros n s start 0 ne ∙ blank_at (n + 1) s)
    (get_or-set_same zeros n start 0 (omega arith)) pos bound few)
