-- A mark is the summary at its place, so one summary changed is one mark more or less, at the address of that place;
-- and there are as many marks as valid blocks.
use Rattle.std.proofs.Common.{◌≡◌, ℕ, zero, suc, ◌+◌, ◌<◌, List, [], ◌∷◌, Option, Some, None, Bool, true, false, length, get_or, set, replicate, if◌then◌else◌, refl, sym, ap, arith}
use Rattle.geometry.specs.Weights.{weigh, SameItems}
use Rattle.geometry.specs.declared.owner.Owner.{Owner}
use Rattle.geometry.specs.declared.owner.Mark.{Mark}
use Rattle.geometry.specs.Mark.{same_mark}
use Rattle.geometry.proofs.MarkTests.{mark_eq}
use Rattle.rights_books.specs.Lists.{times}
use Rattle.sit.specs.Summaries.{marks_from, count_of}

-- what the summary at an address weighs
abbrev pub of_summary : (Mark → ℕ) → ℕ → Option Owner → ℕ
of_summary h a None = 0
of_summary h a (Some w) = h (record { address = a; owner = w })

of_same : (h : Mark → ℕ) (a b : ℕ) (s : Option Owner) → b ≡ a → of_summary h b s ≡ of_summary h a s
of_same h a b s e = ap (λ z. of_summary h z s) e

marks_cons : (h : Mark → ℕ) (a : ℕ) (s : Option Owner) (ss : List (Option Owner)) → weigh h (marks_from a (s ∷ ss)) ≡ of_summary h a s + weigh h (marks_from (suc a) ss)
marks_cons h a (Some w) ss = refl
marks_cons h a None ss = omega arith

pub marks-set : (h : Mark → ℕ) (a : ℕ) (ss : List (Option Owner)) (o : ℕ) (s : Option Owner) (b : ℕ) → b ≡ a + o → o < length ss
    → weigh h (marks_from a (set ss o s)) + of_summary h b (get_or ss o None) ≡ weigh h (marks_from a ss) + of_summary h b s
marks-set h a [] o s b e within = absurd (omega arith)
marks-set h a (t ∷ ss) zero s b e within =
    let p = marks_cons h a s ss in
    let q = marks_cons h a t ss in
    let u = of_same h a b s (omega arith) in
    let v = of_same h a b t (omega arith) in omega arith
marks-set h a (t ∷ ss) (suc o) s b e within =
    let p = marks_cons h a t (set ss o s) in
    let q = marks_cons h a t ss in
    let r = marks-set h (suc a) ss o s b (omega arith) (omega arith) in omega arith

-- a mark that is there stands at its place
abbrev pub StandsIn : Mark → ℕ → List (Option Owner) → Type 0
StandsIn m a ss = (o : ℕ) × (m.address ≡ a + o) × (o < length ss) × (get_or ss o None ≡ Some m.owner)

later : (m : Mark) (a : ℕ) (s : Option Owner) (ss : List (Option Owner)) → StandsIn m (suc a) ss → StandsIn m a (s ∷ ss)
later m a s ss (o, e, within, is) = (suc o, omega arith, omega arith, is)

pub found : (m : Mark) (a : ℕ) (ss : List (Option Owner)) → 0 < times same_mark m (marks_from a ss) → StandsIn m a ss
found m a [] some = absurd (omega arith)
found m a (None ∷ ss) some = later m a None ss (found m (suc a) ss some)
found m a (Some w ∷ ss) some = go (same_mark m here) refl some (found m (suc a) ss)
  where
    here : Mark
    here = record { address = a; owner = w }

    go : (b : Bool) → same_mark m here ≡ b → 0 < (if b then 1 else 0) + times same_mark m (marks_from (suc a) ss)
        → (0 < times same_mark m (marks_from (suc a) ss) → StandsIn m (suc a) ss) → StandsIn m a (Some w ∷ ss)
    go true e few rest = let is = mark_eq m here e in let at = ap (λ z. z.address) is in (0, omega arith, omega arith, sym (ap (λ z. Some z.owner) is))
    go false e few rest = later m a (Some w) ss (rest (omega arith))

pub none_from : (n a : ℕ) → marks_from a (replicate n None) ≡ []
none_from zero a = refl
none_from (suc n) a = none_from n (suc a)

-- a block becomes valid
pub marks_set : (first o : ℕ) (ss ss' : List (Option Owner)) (m : Mark) → o < length ss → get_or ss o None ≡ None → ss' ≡ set ss o (Some m.owner) → m.address ≡ first + o
    → SameItems (m ∷ marks_from first ss) (marks_from first ss')
marks_set first o ss ss' m within clear is at weight =
    let new = ap (λ xs. weigh weight (marks_from first xs)) is in
    let change = marks-set weight first ss o (Some m.owner) m.address at within in
    let before = ap (of_summary weight m.address) clear in omega arith

-- a block is valid no more
pub marks_cleared : (first o : ℕ) (ss ss' : List (Option Owner)) (m : Mark) → o < length ss → get_or ss o None ≡ Some m.owner → ss' ≡ set ss o None → m.address ≡ first + o
    → SameItems (m ∷ marks_from first ss') (marks_from first ss)
marks_cleared first o ss ss' m within valid is at weight =
    let new = ap (λ xs. weigh weight (marks_from first xs)) is in
    let change = marks-set weight first ss o None m.address at within in
    let before = ap (of_summary weight m.address) valid in omega arith

-- as many blocks are valid as there are marks
pub marks_count : (a : ℕ) (ss : List (Option Owner)) → weigh (λ m. 1) (marks_from a ss) ≡ count_of ss
marks_count a [] = refl
marks_count a (Some w ∷ ss) = let rest = marks_count (suc a) ss in omega arith
marks_count a (None ∷ ss) = let rest = marks_count (suc a) ss in omega arith
