-- One entry is set and counted anew: then as many are counted as have a marked node below them.
use Rattle.std.proofs.Common.{◌≡◌, ℕ, zero, suc, ◌+◌, ◌-◌, ◌<◌, ◌≤◌, ◌↔◌, Bool, true, false, nat_lt, if◌then◌else◌, List, [], ◌∷◌, length, get_or, set, Option, None, refl, sym, ap, ◌∙◌, arith}
use borrow.Author.Tests.{lt-ltb}
use Rattle.geometry.specs.Weights.{weigh}
use Rattle.geometry.proofs.Weighing.{weigh-at, weigh-set}
use Rattle.nodes.specs.Tree.{entry_at}
use Rattle.nodes.specs.Change.{Weighing, each_marked}
use Rattle.nodes.specs.TreeMarks.{one_of, one_if, mark_of, AreCounted}

at_most : (n : ℕ) → one_of n ≤ 1
at_most zero = omega arith
at_most (suc n) = omega arith

none_is : (n : ℕ) → one_of n ≡ 0 → n ≡ 0
none_is zero e = refl
none_is (suc n) e = absurd (omega arith)

told : (is : Bool) (n : ℕ) → (is ≡ false) ↔ (n ≡ 0) → one_if is ≡ one_of n
told false n tells = sym (ap one_of (tells.0 refl))
told true zero tells = absurd (let no = tells.1 refl in cc)
told true (suc n) tells = refl

module _ {A : Type 0} (f : A → ℕ) where
  few : (xs : List A) → weigh (λ x. one_of (f x)) xs ≤ length xs
  few [] = omega arith
  few (x ∷ xs) = let rest = few xs in let here = at_most (f x) in omega arith

  room : (xs : List A) (i : ℕ) (d : A) → i < length xs → weigh (λ x. one_of (f x)) xs < length xs + one_of (f (get_or xs i d))
  room [] i d inside = absurd (omega arith)
  room (x ∷ xs) zero d inside = let rest = few xs in omega arith
  room (x ∷ xs) (suc i) d inside = let rest = room xs i d (omega arith) in let here = at_most (f x) in omega arith

  pub none_counted : (xs : List A) → weigh (λ x. one_of (f x)) xs ≡ 0 → weigh f xs ≡ 0
  none_counted [] e = refl
  none_counted (x ∷ xs) e =
      let here : f x ≡ 0 = none_is (f x) (omega arith) in
      let rest : weigh f xs ≡ 0 = none_counted xs (omega arith) in
      omega arith

  pub count_none : (xs : List A) → weigh f xs ≡ 0 → weigh (λ x. one_of (f x)) xs ≡ 0
  count_none [] e = refl
  count_none (x ∷ xs) e =
      let zero_here : f x ≡ 0 = omega arith in
      let here : one_of (f x) ≡ 0 = ap one_of zero_here in
      let rest : weigh (λ x. one_of (f x)) xs ≡ 0 = count_none xs (omega arith) in
      omega arith

module _ {L C : Type 0} (weight : Weighing L → Option C → ℕ) where
  pub recounts : (xs : List (Option C)) (at : ℕ) (slot : Option C) (was is : Bool) (old new most : ℕ) → at < length xs → most ≡ length xs
      → (was ≡ false) ↔ (weight each_marked (entry_at xs at) ≡ 0) → (is ≡ false) ↔ (weight each_marked slot ≡ 0)
      → ((rest : ℕ) → rest < most → old ≡ rest + one_if was → new ≡ rest + one_if is)
      → AreCounted weight old xs → AreCounted weight new (set xs at slot)
  recounts xs at slot was is old new most inside wide tells_was tells_is step counted =
      let before : one_if was ≡ mark_of weight (entry_at xs at) = told was (weight each_marked (entry_at xs at)) tells_was in
      let after : one_if is ≡ mark_of weight slot = told is (weight each_marked slot) tells_is in
      let all = weigh-set (mark_of weight) xs at slot None inside in
      let most_here = weigh-at (mark_of weight) xs at None inside in
      let low = room (weight each_marked) xs at None inside in
      let steps : new ≡ (weigh (mark_of weight) xs - mark_of weight (entry_at xs at)) + one_if is =
      step (weigh (mark_of weight) xs - mark_of weight (entry_at xs at)) (omega arith) (omega arith) in
      omega arith

-- who tells of one tree whether it is marked tells the same
pub same_told : (was is : Bool) (n : ℕ) → (was ≡ false) ↔ (n ≡ 0) → (is ≡ false) ↔ (n ≡ 0) → was ≡ is
same_told false false n a b = refl
same_told true true n a b = refl
same_told false true n a b = sym (b.1 (a.0 refl))
same_told true false n a b = a.1 (b.0 refl)

no_count : (n : ℕ) → nat_lt 0 n ≡ false → n ≡ 0
no_count zero e = refl
no_count (suc n) e = absurd (let some : nat_lt 0 (suc n) ≡ true = lt-ltb 0 (suc n) (omega arith) in cc)

-- a node that has counted its entries tells whether it or one below it is marked
pub count_tells : {L C : Type 0} (weight : Weighing L → Option C → ℕ) (xs : List (Option C)) (count : ℕ) → AreCounted weight count xs → (dirty : Bool) → dirty ≡ false
    → (nat_lt 0 count ≡ false) ↔ ((if dirty then 1 else 0) + weigh (weight each_marked) xs ≡ 0)
count_tells weight xs count counted true e = absurd (let no = e in cc)
count_tells weight xs count counted false e = (
  λ none. (let rest = none_counted (weight each_marked) xs (sym counted ∙ no_count count none) in omega arith),
  λ zero. (let all : weigh (weight each_marked) xs ≡ 0 = omega arith in let none : count ≡ 0 = counted ∙ count_none (weight each_marked) xs all in rw none refl),
)
