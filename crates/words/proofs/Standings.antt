-- A segment's word is its state and incarnation as its one standing has them, and its pins below: so a step of the
-- standing changes both alike, and no other segment's part of the rule.
use Rattle.std.proofs.Common.{◌≡◌, ◌≢◌, ℕ, ◌+◌, ◌-◌, ◌*◌, ◌%◌, ◌^◌, ◌<◌, ◌≤◌, List, [], ◌∷◌, get_or, set, sym, refl, ap, ◌∙◌, subst, arith}
use Rattle.std.proofs.lemmas.List.{set-get_or}
use mathlib.Core.Logic.{dite}
use native.Mathlib.Decide.{ℕ_discrete}
use mathlib.Core.Option.{none, some}
use lib.ListN.{get_elem?}
use Rattle.atomic_table.specs.Table.{State as Table, Me, step, keeps, Allows}
use Rattle.atomic_table.proofs.Lists.{set_again}
use Rattle.geometry.specs.declared.state.State.{State}
use Rattle.geometry.specs.declared.state.State.TheVariants.{Free, Open, Sealed, Prefree}
use Rattle.geometry.specs.Weights.{weigh}
use Rattle.words.specs.declared.claim.Life.{Life}
use Rattle.words.specs.declared.claim.SeatClaim.{SeatClaim}
use Rattle.words.specs.declared.claim.SeatClaim.TheVariants.{Stands, Slip, Appends, Reads, Checkpoint}
use Rattle.words.specs.Claims.{Every, total, at, code, is_free, is_open, room_of, stands, stands_at, rank_of, rank, frees, opens, room, slips, appends, pins, pins_at}
use Rattle.words.specs.Rule.{IsDated, Sound, Law}
use Rattle.words.specs.Steps.{life_seen, life_loaded, life_sealed, life_retired, life_freed, life_opened, version_loaded, counted, sealed, retired, freed, opened, shown_open}
use Rattle.words.proofs.Counts.{at_here, at_other, at_zero, at_none, sum-none, sum-only, sum-in, every-get}
use Rattle.words.proofs.Keeps.{moved, word_changed, few_pins, part_of_pins}

-- what the rule says of one segment, told by its standing
pub record Facts (n : ℕ) (words : List ℕ) (views : List (List SeatClaim)) (l : Life) : Type 0 where
  pub lt : l.segment < n
  pub dated : IsDated l.state (get_or words n 0) l.incarnation l.stamp
  pub seen : l.seen ≤ get_or words n 0
  pub low : l.incarnation ≤ get_or words n 0
  pub bound : get_or words n 0 < 4294967296
  pub few : total (pins l.segment) views ≤ 64
  pub is : get_or words l.segment 0 ≡ rank_of l + total (pins l.segment) views
  pub roomy : total (room l.segment) views ≡ room_of l.state l.pins
  pub lives : (i : ℕ) → total (stands_at l.segment i) views ≡ at l.incarnation i 1
  pub free : total (frees l.segment) views ≡ is_free l.state
  pub opn : total (opens l.segment) views ≡ is_open l.state
  pub within : total (pins l.segment) views ≤ room_of l.state l.pins

dated_low : (st : State) (c i stamp : ℕ) → IsDated st c i stamp → i ≤ c
dated_low Free c i stamp h = omega (arith, h)
dated_low Open c i stamp h = h
dated_low Sealed c i stamp h = h
dated_low Prefree c i stamp h = omega (arith, h.0, h.1)

pub no_rank : (s : ℕ) (c : SeatClaim) → stands s c ≡ 0 → rank s c ≡ 0
no_rank s (Stands l) h = at_none l.segment s (rank_of l) h
no_rank s (Slip k) h = refl
no_rank s (Appends k) h = refl
no_rank s (Reads r) h = refl
no_rank s (Checkpoint v) h = refl

no_room : (s : ℕ) (c : SeatClaim) → stands s c ≡ 0 → room s c ≡ 0
no_room s (Stands l) h = at_none l.segment s (room_of l.state l.pins) h
no_room s (Slip k) h = refl
no_room s (Appends k) h = refl
no_room s (Reads r) h = refl
no_room s (Checkpoint v) h = refl

no_frees : (s : ℕ) (c : SeatClaim) → stands s c ≡ 0 → frees s c ≡ 0
no_frees s (Stands l) h = at_none l.segment s (is_free l.state) h
no_frees s (Slip k) h = refl
no_frees s (Appends k) h = refl
no_frees s (Reads r) h = refl
no_frees s (Checkpoint v) h = refl

no_opens : (s : ℕ) (c : SeatClaim) → stands s c ≡ 0 → opens s c ≡ 0
no_opens s (Stands l) h = at_none l.segment s (is_open l.state) h
no_opens s (Slip k) h = refl
no_opens s (Appends k) h = refl
no_opens s (Reads r) h = refl
no_opens s (Checkpoint v) h = refl

pub no_life : (s i : ℕ) (c : SeatClaim) → stands s c ≡ 0 → stands_at s i c ≡ 0
no_life s i (Stands l) h = at_none l.segment s (at l.incarnation i 1) h
no_life s i (Slip k) h = refl
no_life s i (Appends k) h = refl
no_life s i (Reads r) h = refl
no_life s i (Checkpoint v) h = refl

module _ (n : ℕ) (words : List ℕ) (views : List (List SeatClaim)) (law : Law n words views) (id : ℕ) (l : Life) (rest : List SeatClaim) (at_id : get_elem? views id ≡ some (Stands l ∷ rest)) where
  sound_here : Sound n (get_or words n 0) (Stands l)
  sound_here = (every-get (Every (Sound n (get_or words n 0))) views id (Stands l ∷ rest) law.sound at_id).0

  module _ (nobody : weigh (stands l.segment) rest ≡ 0) where
    alone : (g : SeatClaim → ℕ) → ((c : SeatClaim) → stands l.segment c ≡ 0 → g c ≡ 0) → total g views ≡ g (Stands l)
    alone g no' = let lt = sound_here.0 in let here = at_here l.segment 1 in
        let one : weigh (stands l.segment) (Stands l ∷ rest) ≡ 1 = omega arith in
        let t = sum-only (λ u. weigh (stands l.segment) u) (λ u. weigh g u) views id (Stands l ∷ rest) (λ u. sum-none (stands l.segment) g u no') at_id one (law.one_standing l.segment lt) in
        let z = sum-none (stands l.segment) g rest no' nobody in omega arith

    pub facts : Facts n words views l
    facts =
        let s = l.segment in
        let h = sound_here in
        let r = alone (rank s) (no_rank s) ∙ at_here s (rank_of l) in
        let ro : total (room s) views ≡ room_of l.state l.pins = alone (room s) (no_room s) ∙ at_here s (room_of l.state l.pins) in
        let e = law.encoded s h.0 in
        let wi = law.within s in
        record {
          lt = h.0;
          dated = h.2;
          seen = h.1;
          low = dated_low l.state (get_or words n 0) l.incarnation l.stamp h.2;
          bound = law.bounded;
          few = few_pins n words views law s;
          is = omega arith;
          roomy = ro;
          lives = λ i. alone (stands_at s i) (no_life s i) ∙ at_here s (at l.incarnation i 1);
          free = alone (frees s) (no_frees s) ∙ at_here s (is_free l.state);
          opn = alone (opens s) (no_opens s) ∙ at_here s (is_open l.state);
          within = omega arith;
        }

-- a standing goes on to another state in the same incarnation, and no slip and no appender comes or goes
module _ (n : ℕ) (words : List ℕ) (views : List (List SeatClaim)) (law : Law n words views) (id : ℕ) (l : Life) (at_id : get_elem? views id ≡ some (Stands l ∷ [])) where
  module _ (st : State) (stamp seen version_loads pin_loads held : ℕ) where
    abbrev l' : Life
    l' = record { segment = l.segment; state = st; incarnation = l.incarnation; stamp = stamp; seen = seen; version_loads = version_loads; pin_loads = pin_loads; pins = held }

    life_changed : (x : ℕ) → x + rank_of l ≡ get_or words l.segment 0 + rank_of l' → is_free st ≡ is_free l.state → is_open st ≡ is_open l.state
        → total (pins l.segment) views ≤ room_of st held → seen ≤ get_or words n 0 → IsDated st (get_or words n 0) l.incarnation stamp
        → Law n (set words l.segment x) (set views id (Stands l' ∷ []))
    life_changed x up same same' fits old dated =
        let s = l.segment in
        let f = facts n words views law id l [] at_id refl in
        let m = moved n words views law id (Stands l ∷ []) (Stands l' ∷ []) at_id in
        let a = at_here s (rank_of l) in let b = at_here s (rank_of l') in
        word_changed n words views law id (Stands l ∷ []) (Stands l' ∷ []) at_id s x f.lt
        (omega arith)
        (λ z ne. let c = at_other s z (rank_of l) ne in let d = at_other s z (rank_of l') ne in omega arith)
        refl (record {
          alike = record {
            standings = λ z. refl;
            one_checkpoint = refl;
            free_slips = λ z. let e : at s z (is_free l.state) ≡ at s z (is_free st) = ap (at s z) (sym same) in omega arith;
            open_appenders = λ z. let e : at s z (is_open l.state) ≡ at s z (is_open st) = ap (at s z) (sym same') in omega arith;
            same_readers = refl;
          };
          within = λ z. dite (ℕ_discrete z s)
              (λ e. subst (λ y. total (pins y) (set views id (Stands l' ∷ [])) ≤ total (room y) (set views id (Stands l' ∷ []))) (sym e)
              (let p = m (pins s) in let q = m (room s) in let c = at_here s (room_of l.state l.pins) in let d = at_here s (room_of st held) in let ro = f.roomy in omega arith))
              (λ ne. let p = m (pins z) in let q = m (room z) in let c = at_other s z (room_of l.state l.pins) ne in let d = at_other s z (room_of st held) ne in let w = law.within z in omega arith);
          same_life = λ z i. let p = m (pins_at z i) in let q = m (stands_at z i) in let w = law.same_life z i in omega arith;
        })
        ((f.lt, old, dated), tt)

abbrev pub Holds : ℕ → Table (Unit {0}) (List SeatClaim) → Type 0
Holds n s = Law n s.words s.views

-- a word is its state and incarnation, and below them its pins
pub low_part : (x c i p : ℕ) → x ≡ 256 * c + 65536 * i + p → p ≤ 64 → x % 256 ≡ p
low_part x c i p e h = omega arith

code_le : (st : State) → code st ≤ 3
code_le Free = omega arith
code_le Open = omega arith
code_le Sealed = omega arith
code_le Prefree = omega arith

module _ (n slots id : ℕ) (c : List (ℕ × Unit {0})) (l : Life) where
  abbrev me : Me (Unit {0}) (List SeatClaim)
  me = (Stands l ∷ [], c)

  pub retires : l.state ≡ Sealed → l.incarnation ≤ l.seen → Allows (Holds n) slots id me l.segment (λ x. (x + 256) % 2 ^ 64) (retired (step slots l.segment 256 0 none) me)
  retires is old s law _ at_id small =
      let f = facts n s.words s.views law id l [] at_id refl in
      let x : ℕ = get_or s.words l.segment 0 in
      let p : ℕ = total (pins l.segment) s.views in
      let k : code l.state ≡ 2 = ap code is in
      let few : p ≤ 64 = f.few in
      let low : l.incarnation ≤ get_or s.words n 0 = f.low in
      let bound : get_or s.words n 0 < 4294967296 = f.bound in
      let e : x ≡ 256 * code l.state + 65536 * l.incarnation + p = f.is in
      let m : x % 256 ≡ p = low_part x (code l.state) l.incarnation p e few in (
        Stands (life_retired l (x % 256)) ∷ [],
        keeps,
        tt,
        life_changed n s.words s.views law id l at_id Prefree l.seen l.seen l.version_loads l.pin_loads (x % 256) ((x + 256) % 2 ^ 64) (omega arith) (sym (ap is_free is)) (sym (ap is_open is)) (omega arith) f.seen (old, f.seen),
        (refl, refl, omega arith),
      )

  pub counts : l.state ≢ Free → Allows (Holds n) slots id me l.segment (λ x. x) (counted (step slots l.segment 0 0 none) me)
  counts busy s law _ at_id small =
      let f = facts n s.words s.views law id l [] at_id refl in
      let x : ℕ = get_or s.words l.segment 0 in
      let p : ℕ = total (pins l.segment) s.views in
      let few : p ≤ 64 = f.few in
      let e : x ≡ 256 * code l.state + 65536 * l.incarnation + p = f.is in
      let m : x % 256 ≡ p = low_part x (code l.state) l.incarnation p e few in (
        Stands (life_loaded l (x % 256)) ∷ [],
        keeps,
        tt,
        life_changed n s.words s.views law id l at_id l.state l.stamp l.seen l.version_loads (l.pin_loads + 1) (x % 256) x refl refl refl (roomy l.state busy p (x % 256) l.pins few (omega arith)) f.seen f.dated,
        (refl, refl, omega arith),
      )
    where
      roomy : (st : State) → st ≢ Free → (p q r : ℕ) → p ≤ 64 → p ≤ q → p ≤ room_of st q
      roomy Free b p q r few le = absurd (b refl)
      roomy Open b p q r few le = few
      roomy Sealed b p q r few le = few
      roomy Prefree b p q r few le = le

  pub loads_version : Allows (Holds n) slots id me n (λ x. x) (version_loaded (step slots n 0 0 none) me)
  loads_version s law _ at_id small =
      let f = facts n s.words s.views law id l [] at_id refl in
      let r : ℕ = get_or s.words n 0 in (
        Stands (life_seen l r) ∷ [],
        keeps,
        tt,
        subst (λ ws. Law n ws (set s.views id (Stands (life_seen l r) ∷ []))) (set-get_or s.words l.segment 0 ∙ sym (set-get_or s.words n 0))
            (life_changed n s.words s.views law id l at_id l.state l.stamp r (l.version_loads + 1) l.pin_loads l.pins (get_or s.words l.segment 0) refl refl refl f.within (omega arith) f.dated),
        (refl, refl, f.seen, f.low, f.bound),
      )

  pub frees_it : l.state ≡ Prefree → l.pins ≡ 0 → l.stamp < l.seen
      → Allows (Holds n) slots id me l.segment (λ x. (x + (2 ^ 64 - 768)) % 2 ^ 64) (freed (step slots l.segment 768 0 none) me)
  frees_it is none_left later s law _ at_id small =
      let g : ℕ = l.segment in
      let w : List SeatClaim = Stands (life_freed l) ∷ Slip l.segment ∷ [] in
      let f = facts n s.words s.views law id l [] at_id refl in
      let mv = moved n s.words s.views law id (Stands l ∷ []) w at_id in
      let x : ℕ = get_or s.words l.segment 0 in
      let p : ℕ = total (pins l.segment) s.views in
      let k : code l.state ≡ 3 = ap code is in
      let ro : room_of l.state l.pins ≡ l.pins = ap (λ st. room_of st l.pins) is in
      let wi : p ≤ room_of l.state l.pins = f.within in
      let zero_pins : p ≡ 0 = omega arith in
      let fits : x < 18446744073709551616 = small in
      let dt : (l.incarnation ≤ l.stamp) × (l.stamp ≤ get_or s.words n 0) = subst (λ st. IsDated st (get_or s.words n 0) l.incarnation l.stamp) is f.dated in
      let low : l.incarnation ≤ l.stamp = dt.0 in
      let seen : l.seen ≤ get_or s.words n 0 = f.seen in
      let e : x ≡ 256 * code l.state + 65536 * l.incarnation + p = f.is in
      let a = at_here g (rank_of l) in let b = at_here g (rank_of (life_freed l)) in (
        w,
        keeps,
        tt,
        word_changed n s.words s.views law id (Stands l ∷ []) w at_id g ((x + (2 ^ 64 - 768)) % 2 ^ 64) f.lt
            (omega arith)
            (λ z ne. let c1 = at_other g z (rank_of l) ne in let d = at_other g z (rank_of (life_freed l)) ne in omega arith)
            refl (record {
              alike = record {
                standings = λ z. omega arith;
                one_checkpoint = refl;
                free_slips = λ z. let q : at g z (is_free l.state) ≡ 0 = ap (λ st. at g z (is_free st)) is ∙ at_zero g z in omega arith;
                open_appenders = λ z. let q : at g z (is_open l.state) ≡ 0 = ap (λ st. at g z (is_open st)) is ∙ at_zero g z in let r = at_zero g z in omega arith;
                same_readers = refl;
              };
              within = λ z. dite (ℕ_discrete z g)
                  (λ h. subst (λ y. total (pins y) (set s.views id w) ≤ total (room y) (set s.views id w)) (sym h) (let i = mv (pins g) in omega arith))
                  (λ ne. let i = mv (pins z) in let j = mv (room z) in let c1 = at_other g z (room_of l.state l.pins) ne in let d = at_other g z 0 ne in let v = law.within z in omega arith);
              same_life = λ z i. let u = mv (pins_at z i) in let q = mv (stands_at z i) in let v = law.same_life z i in omega arith;
            })
            ((f.lt, seen, omega arith), (tt, tt)),
        (refl, refl),
      )

  abbrev both : Me (Unit {0}) (List SeatClaim)
  both = (Stands l ∷ Slip l.segment ∷ [], c)

  pub opens_it : Allows (Holds n) slots id both l.segment (λ x. (x + 65792) % 2 ^ 64) (opened (step slots l.segment 65792 0 none) both)
  opens_it s law _ at_id small =
      let g : ℕ = l.segment in
      let v : List SeatClaim = Stands l ∷ Slip l.segment ∷ [] in
      let w : List SeatClaim = Stands (life_opened l) ∷ Appends l.segment ∷ [] in
      let f = facts n s.words s.views law id l (Slip l.segment ∷ []) at_id refl in
      let mv = moved n s.words s.views law id v w at_id in
      let x : ℕ = get_or s.words l.segment 0 in
      let p : ℕ = total (pins l.segment) s.views in
      let own = at_here g 1 in
      let slip : weigh (slips g) v ≤ total (slips g) s.views = sum-in (λ u. weigh (slips g) u) s.views id v at_id in
      let same = law.one_slip g in
      let fr : total (frees g) s.views ≡ is_free l.state = f.free in
      let is : l.state ≡ Free = only_free l.state (omega arith) in
      let k : code l.state ≡ 0 = ap code is in
      let one : is_free l.state ≡ 1 = ap is_free is in
      let ro : room_of l.state l.pins ≡ 0 = ap (λ st. room_of st l.pins) is in
      let wi : p ≤ room_of l.state l.pins = f.within in
      let zero_pins : p ≡ 0 = omega arith in
      let dt : l.incarnation < get_or s.words n 0 = subst (λ st. IsDated st (get_or s.words n 0) l.incarnation l.stamp) is f.dated in
      let bound : get_or s.words n 0 < 4294967296 = f.bound in
      let seen : l.seen ≤ get_or s.words n 0 = f.seen in
      let e : x ≡ 256 * code l.state + 65536 * l.incarnation + p = f.is in
      let a = at_here g (rank_of l) in let b = at_here g (rank_of (life_opened l)) in (
        w,
        keeps,
        tt,
        word_changed n s.words s.views law id v w at_id g ((x + 65792) % 2 ^ 64) f.lt
            (omega arith)
            (λ z ne. let c1 = at_other g z (rank_of l) ne in let d = at_other g z (rank_of (life_opened l)) ne in omega arith)
            refl (record {
              alike = record {
                standings = λ z. omega arith;
                one_checkpoint = refl;
                free_slips = λ z. let q : at g z (is_free l.state) ≡ at g z 1 = ap (at g z) one in let r = at_zero g z in omega arith;
                open_appenders = λ z. let q : at g z (is_open l.state) ≡ 0 = ap (λ st. at g z (is_open st)) is ∙ at_zero g z in omega arith;
                same_readers = refl;
              };
              within = λ z. dite (ℕ_discrete z g)
                  (λ h. subst (λ y. total (pins y) (set s.views id w) ≤ total (room y) (set s.views id w)) (sym h) (let i = mv (pins g) in omega arith))
                  (λ ne. let i = mv (pins z) in let j = mv (room z) in let c1 = at_other g z (room_of l.state l.pins) ne in let d = at_other g z 64 ne in let y = law.within z in omega arith);
              same_life = λ z i. dite (ℕ_discrete z g)
                  (λ h. subst (λ y. total (pins_at y i) (set s.views id w) ≤ 64 * total (stands_at y i) (set s.views id w)) (sym h)
                  (let u = mv (pins_at g i) in let q = part_of_pins g i s.views in omega arith))
                  (λ ne. let u = mv (pins_at z i) in let q = mv (stands_at z i) in let c1 = at_other g z (at l.incarnation i 1) ne in let d = at_other g z (at (l.incarnation + 1) i 1) ne in let y = law.same_life z i in omega arith);
            })
            ((f.lt, seen, omega arith), (tt, tt)),
        (refl, refl, is),
      )
    where
      only_free : (st : State) → 1 ≤ is_free st → st ≡ Free
      only_free Free h = refl
      only_free Open h = absurd (omega arith)
      only_free Sealed h = absurd (omega arith)
      only_free Prefree h = absurd (omega arith)

  -- a standing with its segment's appender
  abbrev appending : Me (Unit {0}) (List SeatClaim)
  appending = (Stands l ∷ Appends l.segment ∷ [], c)

  open_by : (s : Table (Unit {0}) (List SeatClaim)) → Law n s.words s.views → get_elem? s.views id ≡ some appending.0 → l.state ≡ Open
  open_by s law at_id =
      let g : ℕ = l.segment in
      let f = facts n s.words s.views law id l (Appends g ∷ []) at_id refl in
      let own = at_here g 1 in
      let mine : weigh (appends g) appending.0 ≤ total (appends g) s.views = sum-in (λ u. weigh (appends g) u) s.views id appending.0 at_id in
      let same = law.one_appender g in
      let opn : total (opens g) s.views ≡ is_open l.state = f.opn in only_open l.state (omega arith)
    where
      only_open : (st : State) → 1 ≤ is_open st → st ≡ Open
      only_open Free h = absurd (omega arith)
      only_open Open h = refl
      only_open Sealed h = absurd (omega arith)
      only_open Prefree h = absurd (omega arith)

  pub shows_open : Allows (Holds n) slots id appending l.segment (λ x. x) (shown_open (step slots l.segment 0 0 none) appending)
  shows_open s law _ at_id small = (
    appending.0,
    keeps,
    tt,
    subst (λ (z : List ℕ × List (List SeatClaim)). Law n z.0 z.1) (λ k. (sym (set-get_or s.words l.segment 0) k, sym (set_again s.views id appending.0 at_id) k)) law,
    (refl, refl, open_by s law at_id),
  )

  pub seals : Allows (Holds n) slots id appending l.segment (λ x. (x + 256) % 2 ^ 64) (sealed (step slots l.segment 256 0 none) appending)
  seals s law _ at_id small =
      let g : ℕ = l.segment in
      let v : List SeatClaim = appending.0 in
      let x : ℕ = get_or s.words g 0 in
      let l' : Life = life_sealed l (x % 256) in
      let w : List SeatClaim = Stands l' ∷ [] in
      let f = facts n s.words s.views law id l (Appends g ∷ []) at_id refl in
      let mv = moved n s.words s.views law id v w at_id in
      let p : ℕ = total (pins g) s.views in
      let is : l.state ≡ Open = open_by s law at_id in
      let k : code l.state ≡ 1 = ap code is in
      let one : is_open l.state ≡ 1 = ap is_open is in
      let wide : room_of l.state l.pins ≡ 64 = ap (λ st. room_of st l.pins) is in
      let few : p ≤ 64 = f.few in
      let low : l.incarnation ≤ get_or s.words n 0 = f.low in
      let bound : get_or s.words n 0 < 4294967296 = f.bound in
      let e : x ≡ 256 * code l.state + 65536 * l.incarnation + p = f.is in
      let m : x % 256 ≡ p = low_part x (code l.state) l.incarnation p e few in
      let a = at_here g (rank_of l) in let b = at_here g (rank_of l') in (
        w,
        keeps,
        tt,
        word_changed n s.words s.views law id v w at_id g ((x + 256) % 2 ^ 64) f.lt
            (omega arith)
            (λ z ne. let c1 = at_other g z (rank_of l) ne in let d = at_other g z (rank_of l') ne in omega arith)
            refl (record {
              alike = record {
                standings = λ z. omega arith;
                one_checkpoint = refl;
                free_slips = λ z. let q : at g z (is_free l.state) ≡ 0 = ap (λ st. at g z (is_free st)) is ∙ at_zero g z in let r = at_zero g z in omega arith;
                open_appenders = λ z. let q : at g z (is_open l.state) ≡ at g z 1 = ap (at g z) one in let r = at_zero g z in omega arith;
                same_readers = refl;
              };
              within = λ z. dite (ℕ_discrete z g)
                  (λ h. subst (λ y. total (pins y) (set s.views id w) ≤ total (room y) (set s.views id w)) (sym h)
                  (let i = mv (pins g) in let j = mv (room g) in let c1 = at_here g (room_of l.state l.pins) in let d = at_here g 64 in let ro = f.roomy in omega arith))
                  (λ ne. let i = mv (pins z) in let j = mv (room z) in let c1 = at_other g z (room_of l.state l.pins) ne in let d = at_other g z 64 ne in let y = law.within z in omega arith);
              same_life = λ z i. let u = mv (pins_at z i) in let q = mv (stands_at z i) in let y = law.same_life z i in omega arith;
            })
            ((f.lt, f.seen, low), tt),
        (refl, refl, omega arith, is),
      )
