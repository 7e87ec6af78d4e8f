-- Pins on a word are the low part of it, and a reader's pin keeps its segment's incarnation: so what a reader adds,
-- takes away or reads is what the rule counts for that segment.
use Rattle.std.proofs.Common.{◌≡◌, ◌⊎◌, ⊎_elim, ℕ, ◌+◌, ◌-◌, ◌*◌, ◌/◌, ◌%◌, ◌^◌, ◌<◌, ◌≤◌, List, [], ◌∷◌, get_or, set, sym, refl, ap, ◌∙◌, subst, arith}
use Rattle.std.proofs.lemmas.List.{set-get_or}
use mathlib.Core.Logic.{dite}
use native.Mathlib.Decide.{ℕ_discrete}
use mathlib.Core.Option.{none, some}
use lib.ListN.{get_elem?}
use Rattle.atomic_table.specs.Table.{State as Table, Me, step, keeps, Allows}
use Rattle.atomic_table.proofs.Lists.{set_again}
use Rattle.geometry.specs.declared.state.State.{State}
use Rattle.geometry.specs.declared.state.State.TheVariants.{Free, Open, Sealed, Prefree}
use Rattle.geometry.specs.Weights.{weigh}
use Rattle.words.specs.declared.claim.Life.{Life}
use Rattle.words.specs.declared.claim.Pins.{Pins}
use Rattle.words.specs.declared.claim.SeatClaim.{SeatClaim}
use Rattle.words.specs.declared.claim.SeatClaim.TheVariants.{Stands, Slip, Appends, Reads, Checkpoint}
use Rattle.words.specs.Claims.{Every, total, at, code, room_of, times, times_at, stands, stands_at, rank_of, rank, room, pins, pins_at, readers}
use Rattle.words.specs.Rule.{Sound, Law}
use Rattle.words.specs.Steps.{life_counted, pins_seen, pins_loaded, pins_with, pins_without, pinned, unpinned, pins_counted, version_seen, agreed}
use Rattle.words.proofs.Counts.{at_here, at_same, at_other, at_le, sum-find, sum-gap, sum-none, sum-only, sum-in, sum-mono, every-get, without_times, without_times_at}
use Rattle.words.proofs.Keeps.{moved, word_changed, looked, few_pins, part_of_pins, pins_le}
use Rattle.words.proofs.Standings.{facts, Holds, low_part, no_rank, no_life}

-- whose word it is, told by no seat
pub record Owner (n : ℕ) (words : List ℕ) (views : List (List SeatClaim)) (s : ℕ) : Type 0 where
  pub l : Life
  pub is : get_or words s 0 ≡ 256 * code l.state + 65536 * l.incarnation + total (pins s) views
  pub lives : (i : ℕ) → total (stands_at s i) views ≡ at l.incarnation i 1

life_here : (s : ℕ) (c : SeatClaim) → stands s c ≡ 1 → (l : Life) × (c ≡ Stands l) × (l.segment ≡ s)
life_here s (Stands l) h = (l, refl, dite (ℕ_discrete l.segment s) (λ e. e) (λ ne. let k = at_other l.segment s 1 (λ e. ne (sym e)) in absurd (omega arith)))
life_here s (Slip k) h = absurd (omega arith)
life_here s (Appends k) h = absurd (omega arith)
life_here s (Reads r) h = absurd (omega arith)
life_here s (Checkpoint v) h = absurd (omega arith)

pub owner : (n : ℕ) (words : List ℕ) (views : List (List SeatClaim)) → Law n words views → (s : ℕ) → s < n → Owner n words views s
owner n words views law s lt =
    let all = law.one_standing s lt in
    let f = sum-find (λ u. weigh (stands s) u) views all in
    let g = sum-find (stands s) f.1 f.3 in
    let h = life_here s g.1 g.3 in
    let the : (k : SeatClaim → ℕ) → ((c : SeatClaim) → stands s c ≡ 0 → k c ≡ 0) → total k views ≡ k (Stands h.0) = λ k no'.
    sum-only (λ u. weigh (stands s) u) (λ u. weigh k u) views f.0 f.1 (λ u. sum-none (stands s) k u no') f.2 f.3 all ∙ (sum-only (stands s) k f.1 g.0 g.1 no' g.2 g.3 f.3 ∙ ap k h.1) in
    let r = the (rank s) (no_rank s) in
    let d = at_same h.0.segment s (rank_of h.0) h.2 in
    let e = law.encoded s lt in
    record {
      l = h.0;
      is = omega arith;
      lives = λ i. the (stands_at s i) (no_life s i) ∙ at_same h.0.segment s (at h.0.incarnation i 1) h.2;
    }

high_part : (x c i p : ℕ) → x ≡ 256 * c + 65536 * i + p → c ≤ 3 → p ≤ 64 → x / 65536 ≡ i
high_part x c i p e b h = omega arith

found_life : (i j k : ℕ) → 0 < k → k ≤ 64 * at i j 1 → i ≡ j
found_life i j k h le = dite (ℕ_discrete i j) (λ e. e) (λ ne. let z = at_other i j 1 (λ e. ne (sym e)) in absurd (omega arith))

code_most : (st : State) → code st ≤ 3
code_most Free = omega arith
code_most Open = omega arith
code_most Sealed = omega arith
code_most Prefree = omega arith

module _ (n slots id : ℕ) (c : List (ℕ × Unit {0})) (p : Pins) where
  abbrev me : Me (Unit {0}) (List SeatClaim)
  me = (Reads p ∷ [], c)

  module _ (s : Table (Unit {0}) (List SeatClaim)) (law : Law n s.words s.views) (at_id : get_elem? s.views id ≡ some (Reads p ∷ [])) where
    sound_here : Sound n (get_or s.words n 0) (Reads p)
    sound_here = (every-get (Every (Sound n (get_or s.words n 0))) s.views id (Reads p ∷ []) law.sound at_id).0

    -- the seat's own pins are counted
    own_pins : (z : ℕ) → times z p.held ≤ total (pins z) s.views
    own_pins z = let h : weigh (pins z) (Reads p ∷ []) ≤ total (pins z) s.views = sum-in (λ u. weigh (pins z) u) s.views id (Reads p ∷ []) at_id in omega arith

    own_pins_at : (z i : ℕ) → times_at z i p.held ≤ total (pins_at z i) s.views
    own_pins_at z i = let h : weigh (pins_at z i) (Reads p ∷ []) ≤ total (pins_at z i) s.views = sum-in (λ u. weigh (pins_at z i) u) s.views id (Reads p ∷ []) at_id in omega arith

    reader_looked : (seen : ℕ) (load : ℕ × ℕ) (loads : ℕ) → seen ≤ get_or s.words n 0 → Law n s.words (set s.views id (Reads (record { held = p.held; seen = seen; load = load; loads = loads }) ∷ []))
    reader_looked seen load loads old =
        let w : List SeatClaim = Reads (record { held = p.held; seen = seen; load = load; loads = loads }) ∷ [] in
        let mv = moved n s.words s.views law id (Reads p ∷ []) w at_id in
        looked n s.words s.views law id (Reads p ∷ []) w at_id (λ z. refl) refl (record {
          alike = record { standings = λ z. refl; one_checkpoint = refl; free_slips = λ z. refl; open_appenders = λ z. refl; same_readers = refl };
          within = λ z. let a = mv (pins z) in let b = mv (room z) in let e = law.within z in omega arith;
          same_life = λ z i. let a = mv (pins_at z i) in let b = mv (stands_at z i) in let e = law.same_life z i in omega arith;
        })
        ((sound_here.0, old), tt)

  pub sees : Allows (Holds n) slots id me n (λ x. x) (version_seen (step slots n 0 0 none) me)
  sees s law _ at_id small =
      let r : ℕ = get_or s.words n 0 in (
        Reads (pins_seen p r) ∷ [],
        keeps,
        tt,
        subst (λ ws. Law n ws (set s.views id (Reads (pins_seen p r) ∷ []))) (sym (set-get_or s.words n 0)) (reader_looked s law at_id r p.load (p.loads + 1) (omega arith)),
        (refl, refl, (sound_here s law at_id).1, law.bounded),
      )

  pub counts_pins : (z : ℕ) → z < n → Allows (Holds n) slots id me z (λ x. x) (pins_counted (step slots z 0 0 none) me)
  counts_pins z lt s law _ at_id small =
      let x : ℕ = get_or s.words z 0 in
      let o = owner n s.words s.views law z lt in
      let few = few_pins n s.words s.views law z in
      let low : x % 256 ≡ total (pins z) s.views = low_part x (code o.l.state) o.l.incarnation (total (pins z) s.views) o.is few in
      let high : x / 65536 ≡ o.l.incarnation = high_part x (code o.l.state) o.l.incarnation (total (pins z) s.views) o.is (code_most o.l.state) few in
      let own = own_pins s law at_id z in (
        Reads (pins_loaded p z (x % 256)) ∷ [],
        keeps,
        tt,
        subst (λ ws. Law n ws (set s.views id (Reads (pins_loaded p z (x % 256)) ∷ []))) (sym (set-get_or s.words z 0)) (reader_looked s law at_id p.seen (z, x % 256) (p.loads + 1) (sound_here s law at_id).1),
        (
          refl,
          refl,
          omega arith,
          omega arith,
          λ i h. let a = own_pins_at s law at_id z i in let b = law.same_life z i in let d = o.lives i in
              high ∙ found_life o.l.incarnation i (times_at z i p.held) h (omega arith),
        ),
      )

  pub unpins : (z : ℕ) → z < n → 0 < times z p.held → Allows (Holds n) slots id me z (λ x. (x + (2 ^ 64 - 1)) % 2 ^ 64) (unpinned (step slots z 1 0 none) me)
  unpins z lt has s law _ at_id small =
      let x : ℕ = get_or s.words z 0 in
      let w : List SeatClaim = Reads (pins_without p z) ∷ [] in
      let mv = moved n s.words s.views law id (Reads p ∷ []) w at_id in
      let own = own_pins s law at_id z in
      let o = owner n s.words s.views law z lt in
      let is : x ≡ 256 * code o.l.state + 65536 * o.l.incarnation + total (pins z) s.views = o.is in
      let fits : x < 18446744073709551616 = small in
      let h = sound_here s law at_id in (
        w,
        keeps,
        tt,
        word_changed n s.words s.views law id (Reads p ∷ []) w at_id z ((x + (2 ^ 64 - 1)) % 2 ^ 64) lt
            (let a = without_times z z p.held has in let b = at_here z 1 in omega arith)
            (λ y ne. let a = without_times y z p.held has in let b = at_other z y 1 ne in omega arith)
            refl (record {
              alike = record { standings = λ y. refl; one_checkpoint = refl; free_slips = λ y. refl; open_appenders = λ y. refl; same_readers = refl };
              within = λ y. let a = mv (pins y) in let b = mv (room y) in let d = without_times y z p.held has in let e = law.within y in omega arith;
              same_life = λ y i. let a = mv (pins_at y i) in let b = mv (stands_at y i) in let d = without_times_at y i z p.held in let e = law.same_life y i in omega arith;
            })
            (((λ y. let a = without_times y z p.held has in let b = h.0 y in omega arith), h.1), tt),
        (refl, refl),
      )

-- a standing and a reader's seat together
module _ (n slots id : ℕ) (c : List (ℕ × Unit {0})) (l : Life) (p : Pins) where
  abbrev pair : Me (Unit {0}) (List SeatClaim)
  pair = (Stands l ∷ Reads p ∷ [], c)

  pub pins_it : (l.state ≡ Open) ⊎ (l.state ≡ Sealed) → times l.segment p.held ≡ 0
      → Allows (Holds n) slots id pair l.segment (λ x. (x + 1) % 2 ^ 64) (pinned (step slots l.segment 1 0 none) pair)
  pins_it busy none_yet s law _ at_id small =
      let g : ℕ = l.segment in
      let x : ℕ = get_or s.words g 0 in
      let v : List SeatClaim = Stands l ∷ Reads p ∷ [] in
      let w : List SeatClaim = Stands (life_counted l (x % 256)) ∷ Reads (pins_with p l.segment l.incarnation) ∷ [] in
      let f = facts n s.words s.views law id l (Reads p ∷ []) at_id refl in
      let mv = moved n s.words s.views law id v w at_id in
      let here = every-get (Every (Sound n (get_or s.words n 0))) s.views id v law.sound at_id in
      let wide_room : (q : ℕ) → room_of l.state q ≡ 64 = λ q. ⊎_elim (λ e. ap (λ st. room_of st q) e) (λ e. ap (λ st. room_of st q) e) busy in
      let fewer : total (pins g) s.views + weigh readers v ≤ total readers s.views + weigh (pins g) v =
      sum-gap (λ u. weigh (pins g) u) (λ u. weigh readers u) (Every (Sound n (get_or s.words n 0))) s.views id v
      (λ u h. sum-mono (pins g) readers (Sound n (get_or s.words n 0)) u (pins_le n (get_or s.words n 0) g) h) law.sound at_id in
      let most = law.few_readers in
      let few : total (pins g) s.views ≤ 63 = omega arith in
      let low : l.incarnation ≤ get_or s.words n 0 = f.low in
      let bound : get_or s.words n 0 < 4294967296 = f.bound in
      let top = code_most l.state in
      let is : x ≡ 256 * code l.state + 65536 * l.incarnation + total (pins g) s.views = f.is in
      let m : x % 256 ≡ total (pins g) s.views = low_part x (code l.state) l.incarnation (total (pins g) s.views) is (omega arith) in
      let one = at_here g 1 in
      let a = at_here g (rank_of l) in (
        w,
        keeps,
        tt,
        word_changed n s.words s.views law id v w at_id g ((x + 1) % 2 ^ 64) f.lt
            (omega arith)
            (λ y ne. let d = at_other g y 1 ne in omega arith)
            refl (record {
              alike = record { standings = λ y. refl; one_checkpoint = refl; free_slips = λ y. refl; open_appenders = λ y. refl; same_readers = refl };
              within = λ y. dite (ℕ_discrete y g)
                  (λ h. subst (λ k. total (pins k) (set s.views id w) ≤ total (room k) (set s.views id w)) (sym h)
                  (let i = mv (pins g) in let j = mv (room g) in let d = at_here g (room_of l.state l.pins) in let e = at_here g (room_of l.state (x % 256)) in
                  let r1 = wide_room l.pins in let r2 = wide_room (x % 256) in let ro = f.roomy in omega arith))
                  (λ ne. let i = mv (pins y) in let j = mv (room y) in let d = at_other g y (room_of l.state l.pins) ne in let e = at_other g y (room_of l.state (x % 256)) ne in let k = at_other g y 1 ne in let u = law.within y in omega arith);
              same_life = λ y i. dite (ℕ_discrete y g)
                  (λ h. subst (λ k. total (pins_at k i) (set s.views id w) ≤ 64 * total (stands_at k i) (set s.views id w)) (sym h)
                  (let a1 = mv (pins_at g i) in let b = mv (stands_at g i) in let d = at_here g (at l.incarnation i 1) in let e = f.lives i in let q = part_of_pins g i s.views in let u = law.same_life g i in let k = at_le l.incarnation i 1 in
                  dite (ℕ_discrete (at l.incarnation i 1) 0) (λ z. omega arith) (λ nz. omega arith)))
                  (λ ne. let a1 = mv (pins_at y i) in let b = mv (stands_at y i) in let d = at_other g y (at l.incarnation i 1) ne in let u = law.same_life y i in omega arith);
            }) (
              (f.lt, f.seen, f.dated),
              (
                (
                  (λ y. dite (ℕ_discrete y g)
                      (λ h. subst (λ k. times k ((l.segment, l.incarnation) ∷ p.held) ≤ 1) (sym h) (omega arith))
                      (λ ne. let d = at_other g y 1 ne in let u = here.1.0.0 y in omega arith)),
                  here.1.0.1,
                ),
                tt,
              ),
            ),
        (refl, refl, omega arith),
      )

  pub agrees : Allows (Holds n) slots id pair l.segment (λ x. x) (agreed (step slots l.segment 0 0 none) pair)
  agrees s law _ at_id small =
      let g : ℕ = l.segment in
      let v : List SeatClaim = Stands l ∷ Reads p ∷ [] in
      let f = facts n s.words s.views law id l (Reads p ∷ []) at_id refl in (
        v,
        keeps,
        tt,
        subst (λ (z : List ℕ × List (List SeatClaim)). Law n z.0 z.1) (λ k. (sym (set-get_or s.words g 0) k, sym (set_again s.views id v at_id) k)) law,
        (
          refl,
          refl,
          (λ i h. let own : weigh (pins_at g i) v ≤ total (pins_at g i) s.views = sum-in (λ u. weigh (pins_at g i) u) s.views id v at_id in
              let b = law.same_life g i in let d = f.lives i in sym (found_life l.incarnation i (times_at g i p.held) h (omega arith))),
          (λ h e. let own : weigh (pins g) v ≤ total (pins g) s.views = sum-in (λ u. weigh (pins g) u) s.views id v at_id in
              let wi = f.within in let z : room_of l.state l.pins ≡ 0 = ap (λ st. room_of st l.pins) e in absurd (omega arith)),
        ),
      )
