-- A slot stands for one number, 16 times its place and the shard: so a number has an entry in its own slot alone, and a
-- change of one slot changes what is shown by that entry.
use Rattle.std.proofs.Common.{◌≡◌, ◌≢◌, ℕ, zero, suc, ◌+◌, ◌*◌, ◌%◌, ◌<◌, ◌≤◌, ◌==◌, List, [], ◌∷◌, Option, Some, None, Bool, true, false, length, get_or, set, replicate, if◌then◌else◌, refl, ap, ◌∙◌, eq-eqb, ne_eqb, arith}
use Rattle.geometry.specs.Weights.{weigh}
use Rattle.rights_books.specs.declared.claim.TakenNumber.{TakenNumber}
use Rattle.rights_books.specs.Lists.{times}
use Rattle.rights_books.specs.Sameness.{same_entry}
use Rattle.rights_books.proofs.Sameness.{entry_eq}
use Rattle.nat.specs.Taken.{entries_of}
use Rattle.nat.specs.Slots.{SlotView, entry_of, entries_from}

-- what a slot weighs
abbrev pub of_slot : (TakenNumber → ℕ) → ℕ → Option SlotView → ℕ
of_slot h n None = 0
of_slot h n (Some s) = h (entry_of n s)

of_same : (h : TakenNumber → ℕ) (a b : ℕ) (s : Option SlotView) → a ≡ b → of_slot h a s ≡ of_slot h b s
of_same h a b s e = ap (λ z. of_slot h z s) e

entries_cons : (h : TakenNumber → ℕ) (k j : ℕ) (s : Option SlotView) (ss : List (Option SlotView)) → weigh h (entries_from k j (s ∷ ss)) ≡ of_slot h (j * 16 + k) s + weigh h (entries_from k (suc j) ss)
entries_cons h k j (Some s) ss = refl
entries_cons h k j None ss = omega arith

-- a slot changes
pub entries-set : (h : TakenNumber → ℕ) (k j : ℕ) (ss : List (Option SlotView)) (i : ℕ) (s : Option SlotView) (n : ℕ) → n ≡ (j + i) * 16 + k → i < length ss
    → weigh h (entries_from k j (set ss i s)) + of_slot h n (get_or ss i None) ≡ weigh h (entries_from k j ss) + of_slot h n s
entries-set h k j [] i s n e within = absurd (omega arith)
entries-set h k j (t ∷ ss) zero s n e within =
    let p = entries_cons h k j s ss in
    let q = entries_cons h k j t ss in
    let u = of_same h n (j * 16 + k) s (omega arith) in
    let v = of_same h n (j * 16 + k) t (omega arith) in omega arith
entries-set h k j (t ∷ ss) (suc i) s n e within =
    let p = entries_cons h k j t (set ss i s) in
    let q = entries_cons h k j t ss in
    let r = entries-set h k (suc j) ss i s n (omega arith) (omega arith) in omega arith

-- an entry that is there stands at the slot of its number
abbrev pub StandsIn : TakenNumber → ℕ → ℕ → List (Option SlotView) → Type 0
StandsIn e k j ss = (i : ℕ) × (slot : SlotView) × (i < length ss) × (get_or ss i None ≡ Some slot) × (e ≡ entry_of ((j + i) * 16 + k) slot)

later : (e : TakenNumber) (k j : ℕ) (s : Option SlotView) (ss : List (Option SlotView)) → StandsIn e k (suc j) ss → StandsIn e k j (s ∷ ss)
later e k j s ss (i, slot, within, at, is) =
    (suc i, slot, omega arith, at, is ∙ (let n : (suc j + i) * 16 + k ≡ (j + suc i) * 16 + k = omega arith in ap (λ z. entry_of z slot) n))

pub found : (e : TakenNumber) (k j : ℕ) (ss : List (Option SlotView)) → 0 < times same_entry e (entries_from k j ss) → StandsIn e k j ss
found e k j [] some = absurd (omega arith)
found e k j (None ∷ ss) some = later e k j None ss (found e k (suc j) ss some)
found e k j (Some s ∷ ss) some = go (same_entry e here) refl some (found e k (suc j) ss)
  where
    here : TakenNumber
    here = entry_of (j * 16 + k) s

    go : (b : Bool) → same_entry e here ≡ b → 0 < (if b then 1 else 0) + times same_entry e (entries_from k (suc j) ss)
        → (0 < times same_entry e (entries_from k (suc j) ss) → StandsIn e k (suc j) ss) → StandsIn e k j (Some s ∷ ss)
    go true is few rest =
        let n : j * 16 + k ≡ (j + 0) * 16 + k = omega arith in
        (0, s, omega arith, refl, entry_eq e here is ∙ ap (λ z. entry_of z s) n)
    go false is few rest = later e k j (Some s) ss (rest (omega arith))

-- 1 where a slot holds something
abbrev pub held : Option SlotView → ℕ
held None = 0
held (Some s) = 1

-- the weight by which entries of a number are counted
abbrev of_number : ℕ → TakenNumber → ℕ
of_number n e = if e.number == n then 1 else 0

one_here : (n m : ℕ) → m ≡ n → ◌≡◌ {A = ℕ} (if m == n then 1 else 0) 1
one_here n m e = rw (eq-eqb m n e) refl

none_here : (n m : ℕ) → m ≢ n → ◌≡◌ {A = ℕ} (if m == n then 1 else 0) 0
none_here n m e = rw (ne_eqb m n e) refl

slot_at : (n m : ℕ) (s : Option SlotView) → m ≡ n → of_slot (of_number n) m s ≡ held s
slot_at n m None e = refl
slot_at n m (Some s) e = one_here n m e

slot_off : (n m : ℕ) (s : Option SlotView) → m ≢ n → of_slot (of_number n) m s ≡ 0
slot_off n m None e = refl
slot_off n m (Some s) e = none_here n m e

-- the slots from j on have no number below
lower : (n k j : ℕ) (ss : List (Option SlotView)) → n < j * 16 + k → entries_of n (entries_from k j ss) ≡ 0
lower n k j [] less = refl
lower n k j (s ∷ ss) less =
    let p = entries_cons (of_number n) k j s ss in
    let q = slot_off n (j * 16 + k) s (λ e. omega arith) in
    let r = lower n k (suc j) ss (omega arith) in omega arith

-- a number has an entry exactly where its slot holds something
pub number_at : (n k j : ℕ) (ss : List (Option SlotView)) (i : ℕ) → n ≡ (j + i) * 16 + k → entries_of n (entries_from k j ss) ≡ held (get_or ss i None)
number_at n k j [] i e = refl
number_at n k j (s ∷ ss) zero e =
    let p = entries_cons (of_number n) k j s ss in
    let q = slot_at n (j * 16 + k) s (omega arith) in
    let r = lower n k (suc j) ss (omega arith) in omega arith
number_at n k j (s ∷ ss) (suc i) e =
    let p = entries_cons (of_number n) k j s ss in
    let q = slot_off n (j * 16 + k) s (λ f. omega arith) in
    let r = number_at n k (suc j) ss i (omega arith) in omega arith

-- no number of another shard has one
pub elsewhere : (n k j : ℕ) (ss : List (Option SlotView)) → k < 16 → n % 16 ≢ k → entries_of n (entries_from k j ss) ≡ 0
elsewhere n k j [] small apart = refl
elsewhere n k j (s ∷ ss) small apart =
    let p = entries_cons (of_number n) k j s ss in
    let q = slot_off n (j * 16 + k) s (λ e. apart (omega arith)) in
    let r = elsewhere n k (suc j) ss small apart in omega arith

pub none_from : (n k j : ℕ) → entries_from k j (replicate n None) ≡ []
none_from zero k j = refl
none_from (suc n) k j = none_from n k (suc j)

pub held_some : (o : Option SlotView) → 0 < held o → (s : SlotView) × (o ≡ Some s)
held_some None some = absurd (omega arith)
held_some (Some s) some = (s, refl)

-- what a slot holds weighs no more than all slots do
pub entry_weighs : (h : TakenNumber → ℕ) (k j : ℕ) (ss : List (Option SlotView)) (i : ℕ) (s : SlotView) (n : ℕ) → n ≡ (j + i) * 16 + k → get_or ss i None ≡ Some s
    → h (entry_of n s) ≤ weigh h (entries_from k j ss)
entry_weighs h k j [] i s n e at = absurd (let no = at in cc)
entry_weighs h k j (t ∷ ss) zero s n e at =
    let p = entries_cons h k j t ss in
    let q = ap (of_slot h (j * 16 + k)) at in
    let r = of_same h n (j * 16 + k) (Some s) (omega arith) in omega arith
entry_weighs h k j (t ∷ ss) (suc i) s n e at =
    let p = entries_cons h k j t ss in
    let r = entry_weighs h k (suc j) ss i s n (omega arith) at in omega arith

pub none_at : (n i : ℕ) → get_or {A = Option SlotView} (replicate n None) i None ≡ None
none_at zero i = refl
none_at (suc n) zero = refl
none_at (suc n) (suc i) = none_at n i
